use Rattle.std.proofs.Common.{◌≡◌, ◌⊎◌, ◌<◌, ◌≤◌, inl, inr, refl, sym, ◌∙◌, subst, arith}
use Rattle.std.proofs.lemmas.Bool.{cases_lt}
use Rattle.lagrange_bound.specs.Work.{ArePlayed, IsBest}
use Rattle.time_windows.specs.Subproblems.{box_in, parts_in}
use Rattle.lagrange_bound.proofs.BestFacts.{best_ends, first_played}
use Rattle.lagrange_bound.proofs.FreeFacts.{free_best}
use Rattle.lagrange_bound.proofs.ReachFacts.{best_reached}
use Rattle.lagrange_bound.proofs.StillFacts.{last_stands}
use Rattle.lagrange_bound.proofs.rounds.play_rounds.Goals as goal

pub loop-played-init : goal.loop-played-init
loop-played-init c = (
  first_played (parts_in c.args.problem) (box_in c.args.problem) c.args.problem.s.now.valid
      c.args.tables.now.present c.copy_from.new.self c.tell-bound.new.loads c.tell-bound.result
      c.requires.prices c.requires.free c.tell-bound.ensures.told c.tell-bound.ensures.taken
      c.copy_from.ensures,
  c.tell-bound.ensures.work,
  c.tell-bound.ensures.loads,
  c.tell-bound.ensures.near,
)

pub returns-clause-kept : goal.returns-clause-kept
returns-clause-kept c = by (cases_lt c.args.rounds 1024) where
  all : c.loop-played.played ≡ c.min-played-end.result
  all = omega (arith, c.loop-played.auto.played-end, c.loop-played-test.false)

  by : (c.args.rounds < 1024) ⊎ (1024 ≤ c.args.rounds)
      → IsBest (parts_in c.args.problem) (box_in c.args.problem) c.args.rounds
      c.loop-played.tables.best
      c.loop-played.bound
  by (inl few) =
      let same : c.loop-played.played ≡ c.args.rounds =
      omega (arith, all, few, c.min-played-end.ensures) in
      subst (λ n. IsBest (parts_in c.args.problem) (box_in c.args.problem) n
      c.loop-played.tables.best
      c.loop-played.bound) same c.loop-played.invariant.0.kept
  by (inr many) =
      let last : c.loop-played.played ≡ 1024 =
      omega (arith, all, many, c.min-played-end.ensures) in
      last_stands (parts_in c.args.problem) (box_in c.args.problem) c.args.problem.s.now.valid
      c.loop-played.tables.present c.loop-played.tables.best c.loop-played.loads c.loop-played.bound
      c.args.rounds
      many
      (subst (λ n. ArePlayed (parts_in c.args.problem) (box_in c.args.problem) n
      c.loop-played.tables.present c.loop-played.tables.best c.loop-played.loads
      c.loop-played.bound) last
      c.loop-played.invariant.0)

pub returns-in-NoPlan-clause-kept : goal.returns-in-NoPlan-clause-kept
returns-in-NoPlan-clause-kept c =
    best_ends (parts_in c.args.problem) (box_in c.args.problem) c.loop-played.played c.args.rounds
    c.loop-played.tables.best
    (omega (arith, c.loop-played.auto.played-end, c.loop-played-test.true))
    (subst (IsBest (parts_in c.args.problem) (box_in c.args.problem) c.loop-played.played
    c.loop-played.tables.best) c.in-NoPlan.is c.loop-played.invariant.0.kept)

pub returns-then-are_within-clause-kept : goal.returns-then-are_within-clause-kept
returns-then-are_within-clause-kept c =
    free_best (parts_in c.args.problem) (box_in c.args.problem) c.args.problem.s.now.valid
    c.args.tables.now.present c.copy_from.new.self c.tell-bound.new.loads c.tell-bound.result
    c.args.rounds
    c.requires.prices c.requires.free c.tell-bound.ensures.told c.tell-bound.ensures.taken
    c.copy_from.ensures (c.if-are_within.ensures refl)

pub returns-then-is_reached-clause-kept : goal.returns-then-is_reached-clause-kept
returns-then-is_reached-clause-kept c =
    best_reached (parts_in c.args.problem) (box_in c.args.problem) c.args.problem.s.now.valid
    c.args.problem.made.inside c.args.enough c.requires.enough c.loop-played.played c.args.rounds
    (omega (arith, c.loop-played.auto.played-end, c.loop-played-test.true))
    c.loop-played.tables.best
    c.loop-played.bound (sym c.is_reached.ensures ∙ c.if-is_reached.true)
    c.loop-played.invariant.0.kept
