use Rattle.std.proofs.Common.{◌∙◌, arith, pos}
use Rattle.row_arena.specs.declared.entry.Entry.{Entry}
use Rattle.row_arena.proofs.WalkFacts.{filled_alone, filled_beside}
use Rattle.row_arena.proofs.walk.walk.Goals as goal
use Rattle.row_arena.proofs.walk.walk.Goals.{then-next-here, else-next-here}

pub loop-k-preserved : goal.loop-k-preserved
loop-k-preserved g c =
    let count = c.loop-k.invariant.count in
    let target = c.args.target.now in
    let pivot = c.args.pivot.now in
    let within = c.loop-k-test.true in
    let d : Entry = record { column = 0; value = pos 0 } in
    record {
      walked = c.in-Some-beside.ensures.walked;
      kept = c.in-Some-beside.ensures.kept;
      within = c.in-Some-beside.ensures.within;
      long = c.beside.ensures.length ∙ c.before-in-loop-k.ensures.length ∙ c.loop-k.invariant.long;
      filled = elim c.if-next-here.branch [
        | then-next-here w ↦ rw w.filled-is (rw w.fill.ensures.columns
            (filled_alone target pivot c.in-Some.here.target c.loop-k.k c.in-Some-beside.next.target
            c.loop-k.filled.items c.requires.target within c.in-Some-beside.ensures.beside
            c.loop-k.invariant.filled d))
        | else-next-here w ↦ rw w.filled-is
            (filled_beside target pivot c.in-Some.here.target c.loop-k.k
            c.in-Some-beside.next.target
            c.loop-k.filled.items c.requires.target within c.in-Some-beside.ensures.beside
            c.loop-k.invariant.filled w.if-next-here.false)
      ];
      count = elim c.if-next-here.branch [
        | then-next-here w ↦ let more = w.fill.ensures.count in rw w.filled-is
            (omega (arith, more, count))
        | else-next-here w ↦ rw w.filled-is (omega (arith, count))
      ];
      room = elim c.if-next-here.branch [
        | then-next-here w ↦ let more = w.fill.ensures.room in
            let before = c.loop-k.invariant.room in rw w.filled-is (omega (arith, more, before))
        | else-next-here w ↦ rw w.filled-is c.loop-k.invariant.room
      ];
    }
