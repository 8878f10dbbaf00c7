-- The links from each node to the next one at its place, node by node.
use Rattle.std.proofs.Common.{◌≡◌, ◌⊎◌, ℕ, ◌+◌, ◌<◌, ◌≤◌, List, [], ◌∷◌, ◌++◌, Some, drop, get_or, length, set, slice_get, All, ◌-◌, refl, sym, ap, ◌∙◌, subst, inl, inr, arith}
use Rattle.std.proofs.lemmas.Bool.{cases_eq, eq-eqb, ne_eqb}
use Rattle.std.proofs.lemmas.List.{append_assoc, drop_more, get_or-set_other, get_or-set_same, length-set}
use Rattle.std.proofs.lemmas.List.Elements.{All-get_or}
use Rattle.std.proofs.lemmas.Option.{get_or_from_slice_get, slice_get-get_or, slice_get_within}
use Rattle.bytime_model.specs.declared.visits.Stand.{Stand}
use Rattle.bytime_model.specs.declared.visits.Visit.{Visit}
use Rattle.bytime_model.specs.Visits.{AreLinks, IsNextAt, visits_in}

module _ (stands : List Stand) where
  -- those from a position on begin with the one that is there
  left_at : (k : ℕ) (stand : Stand) → slice_get stands k ≡ Some stand
      → drop k stands ≡ stand ∷ drop (k + 1) stands
  left_at k stand is =
      drop_more stands k stand (slice_get_within stands k stand is)
      ∙ ap (λ s. s ∷ drop (k + 1) stands) (get_or_from_slice_get stands k stand stand is)

  -- one at another place is passed over
  visit_of_other : (place k : ℕ) (stand : Stand) → slice_get stands k ≡ Some stand
      → (stand.place ≡ place → ⊥)
      → visits_in place (drop k stands) ≡ visits_in place (drop (k + 1) stands)
  visit_of_other place k stand is other =
      ap (visits_in place) (left_at k stand is) ∙ rw (ne_eqb stand.place place other) refl

  -- one at the place is its visit
  visit_of_own : (place k : ℕ) (stand : Stand) → slice_get stands k ≡ Some stand
      → stand.place ≡ place
      → visits_in place (drop k stands) ≡ stand.visit ∷ visits_in place (drop (k + 1) stands)
  visit_of_own place k stand is own =
      ap (visits_in place) (left_at k stand is) ∙ rw (eq-eqb stand.place place own) refl

  -- past all there is none
  pub next_none : (place from : ℕ) → from ≡ length stands → IsNextAt place stands from from
  next_none place from past = record {
    late = omega arith;
    same = refl;
    here = λ stand is. absurd (let within = slice_get_within stands from stand is in
        omega (arith, past));
  }

  first_by : (place k : ℕ) (stand : Stand) (firsts : List ℕ) → slice_get stands k ≡ Some stand
      → place < length firsts → IsNextAt place stands (k + 1) (get_or firsts place 0)
      → (place ≡ stand.place) ⊎ (place ≡ stand.place → ⊥)
      → IsNextAt place stands k (get_or (set firsts stand.place k) place 0)
  first_by place k stand firsts is within next (inl own) =
      subst (IsNextAt place stands k)
      (sym (ap (λ n. get_or (set firsts n k) place 0) (sym own)
      ∙ get_or-set_same firsts place k 0 within))
      (record {
        late = omega arith;
        same = refl;
        here = λ s here. sym (own ∙ ap (λ (s : Stand). s.place)
            (sym (get_or_from_slice_get stands k stand s is)
            ∙ get_or_from_slice_get stands k s s here));
      })
  first_by place k stand firsts is within next (inr other) =
      subst (IsNextAt place stands k)
      (sym (get_or-set_other firsts stand.place place k 0 other))
      (record {
        late = omega (arith, next.late);
        same = visit_of_other place k stand is (λ same. other (sym same)) ∙ next.same;
        here = next.here;
      })

  next_by : (k i : ℕ) (firsts nexts : List ℕ) (stand d : Stand)
      → slice_get stands k ≡ Some stand → slice_get stands i ≡ Some d → k < length nexts → k ≤ i
      → stand.place < length firsts → AreLinks stands (k + 1) firsts nexts
      → (i ≡ k) ⊎ (i ≡ k → ⊥)
      → IsNextAt d.place stands (i + 1)
      (get_or (set nexts k (get_or firsts stand.place 0)) i 0)
  next_by k i firsts nexts stand d is here within from place links (inl same) =
      let one : d ≡ stand =
      sym (get_or_from_slice_get stands i d stand here)
      ∙ ap (λ n. get_or stands n stand) same
      ∙ get_or_from_slice_get stands k stand stand is in
      subst (IsNextAt d.place stands (i + 1))
      (sym (ap (λ n. get_or (set nexts k (get_or firsts stand.place 0)) n 0) same
      ∙ get_or-set_same nexts k (get_or firsts stand.place 0) 0 within))
      (subst (λ n. IsNextAt d.place stands (n + 1) (get_or firsts stand.place 0)) (sym same)
      (subst (λ (s : Stand). IsNextAt s.place stands (k + 1) (get_or firsts stand.place 0))
      (sym one) (links.first stand.place place)))
  next_by k i firsts nexts stand d is here within from place links (inr not) =
      subst (IsNextAt d.place stands (i + 1))
      (sym (get_or-set_other nexts k i (get_or firsts stand.place 0) 0 not))
      (links.next i d (omega (arith, from, not)) here)

  -- one more: it is the first at its place, and that which was leads on from it
  links_next : (k : ℕ) (firsts nexts : List ℕ) (stand : Stand)
      → slice_get stands k ≡ Some stand → k < length nexts → stand.place < length firsts
      → AreLinks stands (k + 1) firsts nexts
      → AreLinks stands k (set firsts stand.place k)
      (set nexts k (get_or firsts stand.place 0))
  links_next k firsts nexts stand is within place links = record {
    first = λ other inside.
        let there : other < length firsts =
        omega (arith, inside, length-set firsts stand.place k) in
        first_by other k stand firsts is there (links.first other there)
        (cases_eq other stand.place);
    next = λ i d from here. next_by k i firsts nexts stand d is here within from place links
        (cases_eq i k);
  }

  -- the same by the place, at the last one that isn't linked yet
  pub link_one : (count : ℕ) (firsts nexts : List ℕ) (place : ℕ) (d : Stand) → 0 < count
      → count ≤ length stands → length nexts ≡ length stands
      → place ≡ (get_or stands (count - 1) d).place
      → All (λ (s : Stand). s.place < length firsts) stands
      → AreLinks stands count firsts nexts
      → AreLinks stands (count - 1) (set firsts place (count - 1))
      (set nexts (count - 1) (get_or firsts place 0))
  link_one count firsts nexts place d some within long is places links =
      let stand = get_or stands (count - 1) d in
      subst (λ n. AreLinks stands (count - 1) (set firsts n (count - 1))
      (set nexts (count - 1) (get_or firsts n 0))) (sym is)
      (links_next (count - 1) firsts nexts stand
      (slice_get-get_or stands (count - 1) d (omega arith)) (omega (arith, long))
      (All-get_or (λ (s : Stand). s.place < length firsts) stands (count - 1) d
      (omega arith) places)
      (subst (λ n. AreLinks stands n firsts nexts) (omega arith) links))

  -- the visits from one at the place on are it and those from the next one on
  pub visit_next : (place at next : ℕ) (d : Stand) (before : List Visit) → at < length stands
      → ((stand : Stand) → slice_get stands at ≡ Some stand → stand.place ≡ place)
      → IsNextAt (get_or stands at d).place stands (at + 1) next
      → (before ++ (get_or stands at d).visit ∷ []) ++ visits_in place (drop next stands)
      ≡ before ++ visits_in place (drop at stands)
  visit_next place at next d before within here link =
      let stand = get_or stands at d in
      let is = slice_get-get_or stands at d within in
      let own = here stand is in
      let same = subst (λ n. visits_in n (drop (at + 1) stands)
      ≡ visits_in n (drop next stands)) own link.same in
      append_assoc before (stand.visit ∷ []) (visits_in place (drop next stands))
      ∙ ap (λ visits. before ++ stand.visit ∷ visits) (sym same)
      ∙ ap (λ visits. before ++ visits) (sym (visit_of_own place at stand is own))
