-- Places by their positions.
use Rattle.std.proofs.Common.{◌≡◌, ◌⊎◌, ℕ, ◌<◌, ◌≤◌, false, List, length, slice_get, None, IsTrue, refl, sym, ap, ◌∙◌, inl, inr}
use Rattle.std.proofs.lemmas.Bool.{cases_lt, false≢true}
use Rattle.std.proofs.lemmas.Option.{slice_get_past}
use Rattle.flow_types.specs.declared.place.CapKind.{CapKind}
use Rattle.flow_types.specs.declared.place.CapKind.TheVariants as kind
use Rattle.flow_types.specs.declared.place.Place.{Place}
use Rattle.flow_types.specs.Capacities.{has_kind}

none_has : (k : CapKind) → has_kind k None ≡ false
none_has kind.Dep = refl
none_has kind.Arr = refl
none_has kind.Sector = refl

-- where there are capacities of a kind, there is a place
pub has_kind-within : (k : CapKind) (places : List Place) (n : ℕ)
    → IsTrue (has_kind k (slice_get places n)) → n < length places
has_kind-within k places n has = by (cases_lt n (length places)) where
  by : (n < length places) ⊎ (length places ≤ n) → n < length places
  by (inl within) = within
  by (inr past) = absurd
      (false≢true (sym (none_has k) ∙ ap (has_kind k) (sym (slice_get_past places n past)) ∙ has))
