use Rattle.std.proofs.Common.{arith, [], ◌∷◌}
use Rattle.bytime_model.specs.Rows.{on_terms, one, term_of}
use Rattle.bytime_model.specs.declared.variables.Var.TheVariants.{By}
use Rattle.bytime_model.proofs.FillFacts.{adds_length, on_all_few}
use Rattle.bytime_model.proofs.fill.put_occupy.Goals as goal

pub put-requires-2 : goal.put-requires-2
put-requires-2 c =
    let flight = c.args.flight.now in
    omega (
      arith,
      c.requires.room,
      c.requires.legs,
      adds_length (term_of one (By c.args.number c.args.node c.args.time) ∷ [])
          c.args.buffer.now c.put.new.self (record {
            terms = c.put.ensures.terms;
            limit =
                c.put.ensures.limit;
          }),
      adds_length (on_terms c.args.number flight c.args.node c.args.time) c.put.new.self
          c.put_all_on.new.buffer c.put_all_on.ensures,
      on_all_few c.args.number c.args.node c.args.time flight.legs,
    )
