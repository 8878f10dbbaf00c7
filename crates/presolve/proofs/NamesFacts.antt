-- Adding the rows of all names, part by part.
use Rattle.std.proofs.Common.{◌≡◌, ℕ, zero, suc, ◌+◌, ◌<◌, ◌≤◌, true, List, [], ◌++◌, length, map, take, drop, sum_by, All, refl, sym, ap, ◌∙◌, subst, arith}
use Rattle.std.proofs.lemmas.Grind.{flat_map-append}
use Rattle.std.proofs.lemmas.List.{append-nil, append_assoc, length-append, length-map, map-append, take-append-drop}
use Rattle.std.proofs.lemmas.List.Elements.{filter-append}
use Rattle.std.proofs.lemmas.List.Sums.{sum_by-append}
use Rattle.std.specs.List.{flat_map, range_with_len}
use Rattle.flow_types.specs.declared.parts.Parts.{Parts}
use Rattle.scaled_simplex.specs.Program.{Problem, columns}
use Rattle.time_windows.specs.Boxes.{Box}
use Rattle.bytime_model.specs.declared.names.RowName.{RowName}
use Rattle.bytime_model.specs.Rows.{is_row}
use Rattle.bytime_model.proofs.KindLaws.{kind_each}
use Rattle.bytime_model.proofs.NameLists.{any_flat, each_any}
use Rattle.bytime_model.specs.declared.names.RowKind.{RowKind}
use Rattle.presolve.specs.declared.rows.ProgramDraft.{ProgramDraft}
use Rattle.presolve.specs.declared.tally.Refused.{Refused}
use Rattle.presolve.specs.Counting.{IfWide, IsPast, row_entries}
use Rattle.bytime_model.specs.AllRows.{kind_rows, part_rows, rows_of}
use Rattle.bytime_model.specs.Kinds.{part_count}
use Rattle.cut_rows.specs.declared.names.CutName.{CutName}
use Rattle.cut_rows.specs.Pools.{cut_names, is_row_with, rows_with}
use Rattle.presolve.specs.Listing.{AddsNames, kept_among, with_rows}
use Rattle.presolve.specs.Relaxed.{kept_row, may_exceed, row_in}
use Rattle.presolve.proofs.CountFacts.{counted_both, none_counted, wide_both, wide_more}
use Rattle.presolve.proofs.PointFacts.{every}
use Rattle.presolve.proofs.PoolFacts.{day_row}
use Rattle.presolve.proofs.RowFacts.{kept_few, rows_none}

-- the names so far are a front of all
pub record IsFront (front all : List RowName) : Type 0 where
  pub rest : List RowName
  pub is : all ≡ front ++ rest

pub front_ranged : (part : ℕ → List RowName) (from few many : ℕ) → few ≤ many
    → IsFront (flat_map part (range_with_len from few)) (flat_map part (range_with_len from many))
front_ranged part from zero many less = record {
  rest = flat_map part (range_with_len from many);
  is = refl;
}
front_ranged part from (suc few) zero less = absurd (omega (arith, less))
front_ranged part from (suc few) (suc many) less =
    let front = front_ranged part (from + 1) few many (omega (arith, less)) in
    record {
      rest = front.rest;
      is = ap (λ names. part from ++ names) front.is
          ∙ sym (append_assoc (part from) (flat_map part (range_with_len (from + 1) few))
          front.rest);
    }

pub front_taken : {X : Type 0} (part : X → List RowName) (xs : List X) (i : ℕ)
    → IsFront (flat_map part (take i xs)) (flat_map part xs)
front_taken part xs i = record {
  rest = flat_map part (drop i xs);
  is = sym (ap (flat_map part) (take-append-drop i xs))
      ∙ flat_map-append part (take i xs) (drop i xs);
}

-- names after others
module _ (parts : Parts) (pool : List CutName) (box : Box) where
  pub adds_none : (draft : ProgramDraft) → AddsNames parts pool box [] draft draft
  adds_none draft = record {
    rows = rows_none parts pool box draft.program draft.kept;
    counted = none_counted draft.tally;
  }

  kept_both : (few more : List RowName)
      → kept_among parts pool box (few ++ more)
      ≡ kept_among parts pool box few ++ kept_among parts pool box more
  kept_both few more = filter-append (λ name. may_exceed (row_in parts pool box name)) few more

  pub adds_both : (few more all : List RowName) (first old new : ProgramDraft)
      → AddsNames parts pool box few first old → AddsNames parts pool box more old new
      → all ≡ few ++ more → AddsNames parts pool box all first new
  adds_both few more all first old new some next both =
      subst (λ names. AddsNames parts pool box names first new) (sym both) (record {
        rows = record {
          program = next.rows.program
              ∙ ap (λ (p : Problem). with_rows p (map (kept_row parts pool box) later))
              some.rows.program
              ∙ ap (λ list. record {
                costs = first.program.costs;
                constant = first.program.constant;
                constraints = list;
              }) (append_assoc first.program.constraints (map (kept_row parts pool box) before)
              (map (kept_row parts pool box) later)
              ∙ ap (λ list. first.program.constraints ++ list)
              (sym (map-append (kept_row parts pool box) before later))
              ∙ ap (λ list. first.program.constraints ++ map (kept_row parts pool box) list)
              (sym (kept_both few more)));
          kept = next.rows.kept ∙ ap (λ list. list ++ later) some.rows.kept
              ∙ append_assoc first.kept before later
              ∙ ap (λ list. first.kept ++ list) (sym (kept_both few more));
        };
        counted = counted_both (sum_by (row_entries parts pool box) few)
            (sum_by (row_entries parts pool box) more)
            (sum_by (row_entries parts pool box) (few ++ more))
            first.tally old.tally new.tally some.counted next.counted
            (sym (sum_by-append (row_entries parts pool box) few more));
      })
    where
      before : List RowName
      before = kept_among parts pool box few

      later : List RowName
      later = kept_among parts pool box more

  pub adds_columns : (names : List RowName) (first now : ProgramDraft) (count : ℕ)
      → AddsNames parts pool box names first now → columns first.program ≡ count
      → columns now.program ≡ count
  adds_columns names first now count adds same = ap columns adds.rows.program ∙ same

  -- there is room for the next names
  pub adds_room : (few more next all : List RowName) (first now : ProgramDraft) (most : ℕ)
      → AddsNames parts pool box few first now → next ≡ few ++ more → IsFront next all
      → columns first.program + length first.program.constraints + length all ≤ most
      → columns now.program + length now.program.constraints + length more ≤ most
  adds_room few more next all first now most adds both front room =
      let cols = ap columns adds.rows.program in
      let long = ap (λ (p : Problem). length p.constraints) adds.rows.program in
      let sum = length-append first.program.constraints
      (map (kept_row parts pool box) (kept_among parts pool box few)) in
      let mapped = length-map (kept_among parts pool box few) (kept_row parts pool box) in
      let less = kept_few parts pool box few in
      let whole = ap length front.is in
      let two = length-append next front.rest in
      let one = ap length both in
      let three = length-append few more in
      omega (arith, cols, long, sum, mapped, less, whole, two, one, three, room)

  -- where these have more entries than there is room for, all have
  pub adds_wide : (few more next all : List RowName) (first now : ProgramDraft) (reason : Refused)
      → AddsNames parts pool box few first now → next ≡ few ++ more → IsFront next all
      → IfWide reason (IsPast now.tally.cells
      (now.tally.entries + sum_by (row_entries parts pool box) more))
      → IfWide reason (IsPast first.tally.cells
      (first.tally.entries + sum_by (row_entries parts pool box) all))
  adds_wide few more next all first now reason adds both front why =
      let part = row_entries parts pool box in
      wide_both (sum_by part few) (sum_by part more) (sum_by part all) first.tally now.tally reason
      adds.counted
      (let whole = ap (sum_by part) front.is in
      let two = sum_by-append part next front.rest in
      let one = ap (sum_by part) both in
      let three = sum_by-append part few more in
      omega (arith, whole, two, one, three))
      why

  -- the rows of the day, and after them those of the cuts
  pub day_room : (first : ProgramDraft) (most : ℕ)
      → columns first.program + length first.program.constraints + length (rows_with parts pool)
      ≤ most
      → columns first.program + length first.program.constraints + length (rows_of parts) ≤ most
  day_room first most room =
      let both = length-append (rows_of parts) (cut_names pool) in omega (arith, both, room)

  pub day_wide : (first : ProgramDraft) (reason : Refused)
      → IfWide reason (IsPast first.tally.cells
      (first.tally.entries + sum_by (row_entries parts pool box) (rows_of parts)))
      → IfWide reason (IsPast first.tally.cells
      (first.tally.entries + sum_by (row_entries parts pool box) (rows_with parts pool)))
  day_wide first reason why =
      let part = row_entries parts pool box in
      let both = sum_by-append part (rows_of parts) (cut_names pool) in
      wide_more reason first.tally.cells (first.tally.entries + sum_by part (rows_of parts))
      (first.tally.entries + sum_by part (rows_with parts pool)) (omega (arith, both)) why

  all_front : IsFront (rows_with parts pool) (rows_with parts pool)
  all_front = record { rest = []; is = sym (append-nil (rows_with parts pool)) }

  module _ (first now : ProgramDraft) (day : AddsNames parts pool box (rows_of parts) first now)
    where
      pub cuts_room : (most : ℕ)
          → columns first.program + length first.program.constraints + length (rows_with parts pool)
          ≤ most
          → columns now.program + length now.program.constraints + length (cut_names pool) ≤ most
      cuts_room most room =
          adds_room (rows_of parts) (cut_names pool) (rows_with parts pool) (rows_with parts pool)
          first now most day refl all_front room

      pub cuts_wide : (reason : Refused)
          → IfWide reason (IsPast now.tally.cells
          (now.tally.entries + sum_by (row_entries parts pool box) (cut_names pool)))
          → IfWide reason (IsPast first.tally.cells
          (first.tally.entries + sum_by (row_entries parts pool box) (rows_with parts pool)))
      cuts_wide reason why =
          adds_wide (rows_of parts) (cut_names pool) (rows_with parts pool) (rows_with parts pool)
          first now reason day refl all_front why

      pub adds_all : (new : ProgramDraft) → AddsNames parts pool box (cut_names pool) now new
          → AddsNames parts pool box (rows_with parts pool) first new
      adds_all new cuts =
          adds_both (rows_of parts) (cut_names pool) (rows_with parts pool) first now new day cuts
          refl

-- each name of a part is of a row
pub part_are : (parts : Parts) (pool : List CutName) (kind : RowKind) (position : ℕ)
    (names : List RowName) → names ≡ part_rows parts kind position
    → position < part_count parts kind → All (λ name. is_row_with parts pool name ≡ true) names
part_are parts pool kind position names are within =
    subst (λ list. All (λ name. is_row_with parts pool name ≡ true) list) (sym are)
    (every (λ name. is_row_with parts pool name ≡ true) (part_rows parts kind position) (λ name any.
    day_row parts pool name
    (each_any (λ other. is_row parts other ≡ true) name (kind_rows parts kind)
    (kind_each parts kind)
    (any_flat (λ other. other ≡ name) (part_rows parts kind) 0 (part_count parts kind) position
    (omega arith) (omega (arith, within)) any))))
