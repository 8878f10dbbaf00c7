use Rattle.std.proofs.Common.{arith, rules}
use Rattle.std.proofs.lemmas.Grind.{common_steps}
use Rattle.time_windows.proofs.MadeFacts.{late_made}
use Rattle.time_windows.proofs.boxes.Boxes.narrow_after.Goals as goal

pub returns-clause-branch : goal.returns-clause-branch
returns-clause-branch c = λ f n. grind (arith, common_steps)

pub returns-clause-made : goal.returns-clause-made
returns-clause-made c = λ parts made.
    late_made parts c.args.self.now _ c.args.flight c.args.node c.args.time made c.requires
    (search rules) (search rules) (returns-clause-branch c)
