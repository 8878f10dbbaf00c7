-- What a row of a whole cut is like: few terms, of variables that are there, each once.
use Rattle.std.proofs.Common.{◌≡◌, ℕ, ◌-◌, ◌≤◌, Bool, true, false, nat_le, cond, List, [], ◌∷◌, length, map, get_or, Option, None, Some, slice_get, All, if◌then◌else◌, unsigned_abs, inl, inr, refl, ap, arith}
use Rattle.std.proofs.lemmas.Int.{ints}
use Rattle.std.proofs.lemmas.List.{length-append, length-map}
use Rattle.std.specs.List.{filter, range_with_len}
use Rattle.std.proofs.lemmas.List.FromFn.{length-range_with_len}
use Rattle.flow_types.specs.declared.flight.Flight.{Flight}
use Rattle.flow_types.specs.declared.parts.Parts.{Parts}
use Rattle.flow_types.specs.Limits.{most_nodes}
use Rattle.flow_types.specs.Valid.{IsScenario}
use Rattle.time_windows.proofs.RootFacts.{flight_in}
use Rattle.bytime_model.specs.declared.variables.Term.{Term}
use Rattle.bytime_model.specs.declared.variables.Var.TheVariants.{By}
use Rattle.bytime_model.specs.Rows.{minus_one, node_count, term_of}
use Rattle.bytime_model.proofs.SmallFacts.{IsUnit}
use Rattle.route_distances.specs.Walks.{legs_of, shortest_of}
use Rattle.cut_rows.specs.declared.names.CutName.{CutName}
use Rattle.cut_rows.specs.declared.names.CutName.TheVariants.{Departed, Heads}
use Rattle.cut_rows.specs.Cuts.{cut_row, cut_terms, head_term, is_head}
use Rattle.cut_rows.proofs.PoolRows.{cut_there, cut_units}
use Rattle.cut_separation.specs.Framed.{IsSmall, IsSmallRow}
use Rattle.cut_separation.specs.Whole.{heads_of}

-- each cut has such terms alone
pub cut_small : (parts : Parts) (cut : CutName) → All (IsSmall parts.flights) (cut_terms parts cut)
cut_small parts cut k d within = record {
  there = cut_there parts cut k d within;
  unit = by (get_or (cut_terms parts cut) k d) (cut_units parts cut k d within);
}
  where
    by : (term : Term) → IsUnit term → unsigned_abs term.factor ≤ 1
    by term (inl plus) = omega (arith, ap unsigned_abs plus)
    by term (inr minus) = omega (arith, ap unsigned_abs minus)

before_few : (b : Bool) (term : Term) → length (if b then term ∷ [] else []) ≤ 1
before_few true term = omega arith
before_few false term = omega arith

pub heads_small : (parts : Parts) (f n t : ℕ) (heads : List ℕ) → length heads ≤ most_nodes
    → IsSmallRow parts.flights (cut_row parts (Heads f n t heads))
heads_small parts f n t heads few =
    let legs = legs_of (slice_get parts.flights f) in
    record {
      few = omega (
        arith,
        length-append (map (head_term parts.day.periods legs f n t) heads)
            (term_of minus_one (By f n t) ∷ []),
        length-map heads (head_term parts.day.periods legs f n t),
        few,
      );
      each = cut_small parts (Heads f n t heads);
      limit = omega (arith, ints);
    }

pub departed_small : (parts : Parts) (f n t : ℕ)
    → IsSmallRow parts.flights (cut_row parts (Departed f n t))
departed_small parts f n t =
    let wait = shortest_of (legs_of (slice_get parts.flights f)) n in
    record {
      few = omega (arith, before_few (nat_le wait t) (term_of minus_one (By f 0 (t - wait))));
      each = cut_small parts (Departed f n t);
      limit = omega (arith, ints);
    }

-- no node has more heads than its flight has nodes
filter_step : {X : Type 0} (x : X) (kept all : List X) (b : Bool) → length kept ≤ length all
    → length (cond b (x ∷ kept) kept) ≤ length (x ∷ all)
filter_step x kept all true few = omega (arith, few)
filter_step x kept all false few = omega (arith, few)

filter_few : {X : Type 0} (test : X → Bool) (xs : List X) → length (filter test xs) ≤ length xs
filter_few test [] = omega arith
filter_few test (x ∷ xs) = filter_step x (filter test xs) xs (test x) (filter_few test xs)

nodes_few : (parts : Parts) (f : ℕ) (found : Option Flight) → IsScenario parts
    → slice_get parts.flights f ≡ found → node_count found ≤ most_nodes
nodes_few parts f None scenario is = omega arith
nodes_few parts f (Some flight) scenario is = (flight_in parts f flight scenario is).route.nodes_to

pub heads_of_few : (parts : Parts) (f n : ℕ) → IsScenario parts
    → length (heads_of (slice_get parts.flights f) n) ≤ most_nodes
heads_of_few parts f n scenario =
    let flight = slice_get parts.flights f in
    omega (
      arith,
      filter_few (is_head (legs_of flight) n) (range_with_len 0 (node_count flight)),
      length-range_with_len 0 (node_count flight),
      nodes_few parts f flight scenario refl,
    )
