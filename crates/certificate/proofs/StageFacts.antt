-- What may stand after a line is not much further on.
use Rattle.std.proofs.Common.{◌≡◌, ℕ, zero, suc, ◌+◌, ◌-◌, ◌≤◌, Bool, true, false, List, length, Option, Some, None, Result, Ok, Err, refl, ap, subst, arith}
use Rattle.std.specs.Prelude.{nat_lt, if◌then◌else◌, ℤ}
use Rattle.std.proofs.lemmas.Bool.{ltb-true}
use Rattle.text_records.specs.Errors.{◌>>=◌}
use Rattle.bytime_model.specs.declared.names.RowName.{RowName}
use Rattle.cut_rows.specs.declared.names.CutName.{CutName}
use Rattle.cut_rows.specs.Cuts.{is_cut as is_cut_of}
use Rattle.cut_rows.specs.Order.{follows_last}
use Rattle.flow_types.specs.declared.parts.Parts.{Parts}
use Rattle.certificate.specs.Fields.{FieldsLeft, field_from, fields_of}
use Rattle.certificate.specs.Items.{item_of}
use Rattle.certificate.specs.Kinds.{kind_of}
use Rattle.certificate.specs.Limits.{most_line_bytes}
use Rattle.certificate.specs.Reading.{fields_step, kind_here, line_step, whole_line}
use Rattle.certificate.specs.Stages.{after_cost, cut_at, is_above, is_ended, next_at, row_at, rows_left, stage_after, trees_left, trips_left, waiting_at}
use Rattle.certificate.specs.declared.fault.LineFault.{LineFault}
use Rattle.certificate.specs.declared.item.CertItem.{CertItem}
use Rattle.certificate.specs.declared.item.CertItem.TheVariants as item
use Rattle.certificate.specs.declared.stage.Stage.{Stage}
use Rattle.certificate.specs.declared.stage.Stage.TheVariants as stage

pub bind_ok : {A B : Type 0} (read : Result A LineFault) (next : A → Result B LineFault) (y : B)
    → (read >>= next) ≡ Ok y → (x : A) × (read ≡ Ok x) × (next x ≡ Ok y)
bind_ok (Ok x) next y is = (x, refl, is)
bind_ok (Err fault) next y is = absurd (let e : ⊥ = cc in e)

pub record IsNear (parts : Parts) (now after : Stage) : Type 0 where
  pub waiting : waiting_at after ≤ waiting_at now + 1
  pub next : next_at after ≤ length parts.flights

waiting_left : (waiting : ℕ) → waiting_at (trees_left waiting) ≤ waiting
waiting_left zero = omega arith
waiting_left (suc more) = omega arith

no_trip_left : (waiting : ℕ) → next_at (trees_left waiting) ≡ 0
no_trip_left zero = refl
no_trip_left (suc more) = refl

after_trees : (parts : Parts) (now : Stage) (waiting : ℕ) → waiting ≤ waiting_at now
    → IsNear parts now (trees_left waiting)
after_trees parts now waiting less = record {
  waiting = omega (arith, waiting_left waiting, less);
  next = omega (arith, no_trip_left waiting);
}

after_rows : (parts : Parts) (now : Stage) (rows : ℕ) (last : Option RowName) (waiting : ℕ)
    → waiting ≤ waiting_at now → IsNear parts now (rows_left rows last waiting)
after_rows parts now zero last waiting less = after_trees parts now waiting less
after_rows parts now (suc rows) last waiting less = record {
  waiting = omega (arith, less);
  next = omega arith;
}

after_trips : (parts : Parts) (now : Stage) (next : ℕ) → IsNear parts now (trips_left parts next)
after_trips parts now next = by (nat_lt next (length parts.flights)) refl where
  by : (b : Bool) → nat_lt next (length parts.flights) ≡ b
      → IsNear parts now (if b then stage.Trips next else stage.Bound)
  by true less = record {
    waiting = omega arith;
    next = let k = ltb-true next (length parts.flights) less in omega (arith, k);
  }
  by false past = record { waiting = omega arith; next = omega arith }

after_plan : (parts : Parts) (now : Stage) (cost : Option ℤ)
    → IsNear parts now (after_cost parts cost)
after_plan parts now None = record { waiting = omega arith; next = omega arith }
after_plan parts now (Some cost) = after_trips parts now 0

after_a_row : (parts : Parts) (now after : Stage) (name : RowName) → row_at now name ≡ Ok after
    → IsNear parts now after
after_a_row parts (stage.Rows left last waiting) after name is = by (is_above last name) refl where
  by : (b : Bool) → is_above last name ≡ b → IsNear parts (stage.Rows left last waiting) after
  by true above =
      let e : rows_left (left - 1) (Some name) waiting ≡ after = cc (rw above at is) in
      subst (IsNear parts (stage.Rows left last waiting)) e
      (after_rows parts (stage.Rows left last waiting) (left - 1) (Some name) waiting (omega arith))
  by false above = absurd (let e : ⊥ = cc (rw above at is) in e)
after_a_row parts other after name is = absurd (let e : ⊥ = cc in e)

after_a_cut : (parts : Parts) (now after : Stage) (cut : CutName) → cut_at parts now cut ≡ Ok after
    → IsNear parts now after
after_a_cut parts (stage.Pool last) after cut is =
    by (follows_last last cut) refl (is_cut_of parts cut) refl
  where
    by : (b : Bool) → follows_last last cut ≡ b → (c : Bool) → is_cut_of parts cut ≡ c
        → IsNear parts (stage.Pool last) after
    by true above true there =
        let e : stage.Pool (Some cut) ≡ after = cc (rw (above, there) at is) in
        subst (IsNear parts (stage.Pool last)) e
        (record { waiting = omega arith; next = omega arith })
    by true above false there = absurd (let e : ⊥ = cc (rw (above, there) at is) in e)
    by false above c there = absurd (let e : ⊥ = cc (rw above at is) in e)
after_a_cut parts other after cut is = absurd (let e : ⊥ = cc in e)

abbrev found : Stage → Result Stage LineFault
found after = Ok after

ok_is : (a b : Stage) → found a ≡ found b → a ≡ b
ok_is a b is = cc

-- after the line of an item
pub item_near : (parts : Parts) (now after : Stage) (item : CertItem)
    → stage_after parts now item ≡ Ok after → IsNear parts now after
item_near parts now after (item.Head digest) is =
    subst (IsNear parts now) (ok_is _ _ is) (record { waiting = omega arith; next = omega arith })
item_near parts now after (item.Cut cut) is = after_a_cut parts now after cut is
item_near parts now after (item.Split flight node time cutoff) is =
    subst (IsNear parts now) (ok_is _ _ is) (record { waiting = omega arith; next = omega arith })
item_near parts now after item.Empty is =
    subst (IsNear parts now) (ok_is _ _ is)
    (after_trees parts now (waiting_at now - 1) (omega arith))
item_near parts now after item.Unit is =
    subst (IsNear parts now) (ok_is _ _ is)
    (after_trees parts now (waiting_at now - 1) (omega arith))
item_near parts now after (item.Dual weight rows) is =
    subst (IsNear parts now) (ok_is _ _ is)
    (after_rows parts now rows None (waiting_at now - 1) (omega arith))
item_near parts now after (item.Lag weight rows) is =
    subst (IsNear parts now) (ok_is _ _ is)
    (after_rows parts now rows None (waiting_at now - 1) (omega arith))
item_near parts now after (item.Row multiplier) is = after_a_row parts now after multiplier.row is
item_near parts now after (item.Plan cost) is =
    subst (IsNear parts now) (ok_is _ _ is) (after_plan parts now cost)
item_near parts now after (item.Trip trip) is =
    subst (IsNear parts now) (ok_is _ _ is) (after_trips parts now (next_at now + 1))
item_near parts now after (item.Bound bound) is =
    subst (IsNear parts now) (ok_is _ _ is) (record { waiting = omega arith; next = omega arith })
item_near parts now after (item.End nodes) is =
    subst (IsNear parts now) (ok_is _ _ is) (record { waiting = omega arith; next = omega arith })

stage_of : Stage → Result (CertItem × Stage) LineFault → Stage
stage_of other (Ok it) = it.1
stage_of other (Err fault) = other

fields_near : (parts : Parts) (now after : Stage) (left : FieldsLeft) (item : CertItem)
    → fields_step parts now left ≡ Ok (item, after) → IsNear parts now after
unfolding fields_step stage_of
fields_near parts now after left item is =
    let word = bind_ok (field_from left) _ (item, after) is in
    let kind = bind_ok (kind_here now (kind_of word.0.0)) _ (item, after) word.2 in
    let told = bind_ok (item_of parts (next_at now) kind.0 word.0.1) _ (item, after) kind.2 in
    let end = bind_ok (stage_after parts now told.0) _ (item, after) told.2 in
    let same : end.0 ≡ after = ap (stage_of after) end.2 in
    subst (IsNear parts now) same (item_near parts now end.0 told.0 end.1)

pub line_near : (parts : Parts) (now after : Stage) (line : List ℕ) (item : CertItem)
    → line_step parts now line ≡ Ok (item, after) → IsNear parts now after
line_near parts now after line item is =
    by (is_ended now) refl (nat_lt most_line_bytes (length line)) refl
  where
    by : (ended : Bool) → is_ended now ≡ ended → (long : Bool)
        → nat_lt most_line_bytes (length line) ≡ long → IsNear parts now after
    by true is_end long is_long = absurd (let e : ⊥ = cc (rw is_end at is) in e)
    by false is_end true is_long = absurd (let e : ⊥ = cc (rw (is_end, is_long) at is) in e)
    by false is_end false is_long =
        fields_near parts now after (whole_line (fields_of line)) item (rw (is_end, is_long) at is)
