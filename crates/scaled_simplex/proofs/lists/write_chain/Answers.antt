use Rattle.std.proofs.Common.{rules, arith, length, ◌-◌, sym, ◌∙◌}
use Rattle.scaled_simplex.specs.Links.{link_at}
use Rattle.scaled_simplex.proofs.LinkFacts.{chain_begun, chain_count, chain_more}
use Rattle.scaled_simplex.proofs.lists.write_chain.Goals as goal

pub loop-next-init : goal.loop-next-init
loop-next-init c =
    let first = c.requires.first in
    rw (c.clear.ensures.items) (
      chain_begun c.args.links.now c.args.first c.requires.first,
      c.requires.first,
      omega (arith, first),
      search rules,
      search rules,
    )

pub loop-next-preserved : goal.loop-next-preserved
loop-next-preserved c =
    let next = c.loop-next.next in
    let some = c.loop-next-test.true in
    let within = c.loop-next.invariant.1 in
    let earlier = c.requires.earlier (next - 1) (omega (arith, some, within)) in
    rw (c.add_row.ensures.rows) (
      sym (chain_more c.args.links.now next c.loop-next.rows.items (omega (arith, some)) earlier)
          ∙ c.loop-next.invariant.0,
      omega (arith, some, within, earlier),
      chain_count c.loop-next.rows.items (link_at c.args.links.now (next - 1)).row next
          (link_at c.args.links.now (next - 1)).next (length c.args.links.now)
          (omega (arith, some)) earlier c.loop-next.invariant.2,
      search rules,
      search rules,
    )
