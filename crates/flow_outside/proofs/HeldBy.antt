-- A map from names to bytes, seen as what it holds.
use Rattle.std.proofs.Common.{◌≡◌, ℕ, true, false, cond, List, [], ◌∷◌, map, Option, Some, String, Vec, string_bytes, refl, sym, ap, ◌∙◌}
use Rattle.std.specs.declared.cmp.Ordering.{Ordering}
use Rattle.std.specs.declared.cmp.Ordering.TheVariants.{Less, Equal, Greater}
use Rattle.std.specs.Ordering.{nat_cmp, eq_by_cmp, match_ordering}
use Rattle.std.specs.Cmp.Lexicographic.{slice_cmp, nat_list_cmp_total}
use Rattle.std.specs.Option.{option_map}
use Rattle.std.specs.Map.{lookup}
use Rattle.std.specs.BTreeMap.{insert_entry, is_at}
use Rattle.std.specs.String.{string_cmp}
use Rattle.std.specs.FinMap.{get, find, put, insert, from_entries, get-insert, get-from_entries, same_map, slice_cmp-IsAntisymmetric, nat_cmp-IsAntisymmetric}
use Rattle.std.specs.FinMap.Entries.{find-put, by_order}
use Rattle.flow_outside.specs.Held.{Held}
use Rattle.flow_outside.specs.Memory.{held_by}

abbrev by_bytes : List ℕ → List ℕ → Ordering
by_bytes = slice_cmp nat_cmp

from_entries-put : (k x : List ℕ) (es : List (List ℕ × List ℕ))
    → from_entries {R = by_bytes} (put by_bytes k x es) ≡ insert (from_entries es) k x
from_entries-put k x es =
    same_map nat_list_cmp_total (slice_cmp-IsAntisymmetric nat_cmp-IsAntisymmetric) _ _ (λ q.
    get-from_entries nat_list_cmp_total (put by_bytes k x es) q
    ∙ find-put by_bytes nat_list_cmp_total q k x es
    ∙ sym (get-insert nat_list_cmp_total (from_entries es) k x q
    ∙ ap (cond (eq_by_cmp by_bytes q k) (Some x)) (get-from_entries nat_list_cmp_total es q)))

module _ {Y Z : Type 0} where
  abbrev seen : String Y × Vec ℕ Z → List ℕ × List ℕ
  seen e = (string_bytes e.0, e.1.items)

  find-seen : (q : List ℕ) (es : List (String Y × Vec ℕ Z))
      → find by_bytes q (map seen es)
      ≡ option_map (λ v. v.items) (lookup (is_at (λ k. by_bytes q (string_bytes k))) es)
  find-seen q [] = refl
  find-seen q (e ∷ es) =
      elim (eq_by_cmp by_bytes q (string_bytes e.0))
      as (λ b. cond b (Some e.1.items) (find by_bytes q (map seen es))
      ≡ option_map (λ v. v.items)
      (cond b (Some e.1) (lookup (is_at (λ k. by_bytes q (string_bytes k))) es))) [
        | true ↦ refl
        | false ↦ find-seen q es
      ]

  -- what a look-up of a name finds is what is held under it
  pub get-held_by_found : (q : List ℕ) (es : List (String Y
      × Vec ℕ Z)) (found : Option (Vec ℕ Z)) (held : Held)
      → found ≡ lookup (is_at (λ k. by_bytes q (string_bytes k))) es → held_by es ≡ held
      → option_map (λ v. v.items) found ≡ get held q
  get-held_by_found q es found held is same =
      ap (option_map (λ v. v.items)) is ∙ sym (find-seen q es)
      ∙ sym (get-from_entries nat_list_cmp_total (map seen es) q) ∙ ap (λ h. get h q) same

  seen-insert_entry : (es : List (String Y × Vec ℕ Z)) (k : String Y) (v : Vec ℕ Z)
      → map seen (insert_entry string_cmp es k v)
      ≡ put by_bytes (string_bytes k) v.items (map seen es)
  seen-insert_entry [] k v = refl
  seen-insert_entry (e ∷ es) k v =
      elim (by_bytes (string_bytes k) (string_bytes e.0))
      as (λ r. map seen (match_ordering r ((k, v) ∷ e ∷ es) ((e.0, v) ∷ es)
      (e ∷ insert_entry string_cmp es k v))
      ≡ by_order r (seen (k, v) ∷ seen e ∷ map seen es)
      ((string_bytes e.0, v.items) ∷ map seen es)
      (seen e ∷ put by_bytes (string_bytes k) v.items (map seen es))) [
        | Less ↦ refl
        | Equal ↦ refl
        | Greater ↦ ap (λ xs. seen e ∷ xs) (seen-insert_entry es k v)
      ]

  -- to insert an entry is to insert it in what is held
  pub held_by-insert_entry : (es : List (String Y × Vec ℕ Z)) (k : String Y) (v : Vec ℕ Z)
      → held_by (insert_entry string_cmp es k v) ≡ insert (held_by es) (string_bytes k) v.items
  held_by-insert_entry es k v =
      ap (λ (xs : List (List ℕ × List ℕ)). from_entries {R =
      by_bytes} xs) (seen-insert_entry es k v)
      ∙ from_entries-put (string_bytes k) v.items (map seen es)
