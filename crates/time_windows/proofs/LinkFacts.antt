-- The links from each connection to the next one of its flight, connection by connection.
use Rattle.std.proofs.Common.{◌≡◌, ◌⊎◌, ℕ, ◌+◌, ◌<◌, ◌≤◌, List, [], ◌∷◌, ◌++◌, Some, drop, get_or, length, set, slice_get, All, ◌-◌, refl, sym, ap, ◌∙◌, subst, inl, inr, arith}
use Rattle.std.proofs.lemmas.Bool.{cases_eq, eq-eqb, ne_eqb}
use Rattle.std.proofs.lemmas.List.{append_assoc, drop_more, get_or-set_other, get_or-set_same, length-set}
use Rattle.std.proofs.lemmas.List.Elements.{All-get_or}
use Rattle.std.proofs.lemmas.Option.{get_or_from_slice_get, slice_get-get_or, slice_get_within}
use Rattle.flow_types.specs.declared.flight.Connection.{Connection}
use Rattle.time_windows.specs.declared.ends.End.{End}
use Rattle.time_windows.specs.declared.turns.Turn.{Turn}
use Rattle.time_windows.specs.Ends.{flight_at}
use Rattle.time_windows.specs.Turns.{AreLinks, IsNextAt, turns_in}
use Rattle.time_windows.proofs.TurnFacts.{turn_of}

module _ (end : End) (connections : List Connection) where
  -- the connections from a position on begin with the one that is there
  left_at : (k : ℕ) (connection : Connection) → slice_get connections k ≡ Some connection
      → drop k connections ≡ connection ∷ drop (k + 1) connections
  left_at k connection is =
      drop_more connections k connection (slice_get_within connections k connection is)
      ∙ ap (λ c. c ∷ drop (k + 1) connections)
      (get_or_from_slice_get connections k connection connection is)

  -- one of another flight is passed over
  turn_of_other : (number k : ℕ) (connection : Connection)
      → slice_get connections k ≡ Some connection → (flight_at end connection ≡ number → ⊥)
      → turns_in end number k (drop k connections)
      ≡ turns_in end number (k + 1) (drop (k + 1) connections)
  turn_of_other number k connection is other =
      ap (turns_in end number k) (left_at k connection is)
      ∙ rw (ne_eqb (flight_at end connection) number other) refl

  -- one of the flight is its turn
  pub turn_of_own : (number k : ℕ) (connection : Connection)
      → slice_get connections k ≡ Some connection → flight_at end connection ≡ number
      → turns_in end number k (drop k connections)
      ≡ turn_of end k connection ∷ turns_in end number (k + 1) (drop (k + 1) connections)
  turn_of_own number k connection is own =
      ap (turns_in end number k) (left_at k connection is)
      ∙ rw (eq-eqb (flight_at end connection) number own) refl

  -- past all there is none
  pub next_none : (number from : ℕ) → from ≡ length connections
      → IsNextAt end number connections from from
  next_none number from past = record {
    late = omega arith;
    same = refl;
    here = λ connection is. absurd (let within = slice_get_within connections from connection is in
        omega (arith, past));
  }

  first_by : (number k at : ℕ) (connection : Connection) (firsts : List ℕ)
      → slice_get connections k ≡ Some connection → number < length firsts
      → IsNextAt end number connections (k + 1) (get_or firsts number 0)
      → (number ≡ flight_at end connection) ⊎ (number ≡ flight_at end connection → ⊥)
      → IsNextAt end number connections k
      (get_or (set firsts (flight_at end connection) k) number 0)
  first_by number k at connection firsts is within next (inl own) =
      subst (IsNextAt end number connections k)
      (sym (ap (λ n. get_or (set firsts n k) number 0) (sym own)
      ∙ get_or-set_same firsts number k 0 within))
      (record {
        late = omega arith;
        same = refl;
        here = λ c here. sym (own ∙ ap (λ (c : Connection). flight_at end c)
            (sym (get_or_from_slice_get connections k connection c is)
            ∙ get_or_from_slice_get connections k c c here));
      })
  first_by number k at connection firsts is within next (inr other) =
      subst (IsNextAt end number connections k)
      (sym (get_or-set_other firsts (flight_at end connection) number k 0 other))
      (record {
        late = omega (arith, next.late);
        same = turn_of_other number k connection is (λ same. other (sym same)) ∙ next.same;
        here = next.here;
      })

  next_by : (k i : ℕ) (firsts nexts : List ℕ) (connection d : Connection)
      → slice_get connections k ≡ Some connection → slice_get connections i ≡ Some d
      → k < length nexts → k ≤ i → flight_at end connection < length firsts
      → AreLinks end connections (k + 1) firsts nexts → (i ≡ k) ⊎ (i ≡ k → ⊥)
      → IsNextAt end (flight_at end d) connections (i + 1)
      (get_or (set nexts k (get_or firsts (flight_at end connection) 0)) i 0)
  next_by k i firsts nexts connection d is here within from flight links (inl same) =
      let one : d ≡ connection =
      sym (get_or_from_slice_get connections i d connection here)
      ∙ ap (λ n. get_or connections n connection) same
      ∙ get_or_from_slice_get connections k connection connection is in
      subst (IsNextAt end (flight_at end d) connections (i + 1))
      (sym (ap (λ n. get_or (set nexts k (get_or firsts (flight_at end connection) 0)) n 0) same
      ∙ get_or-set_same nexts k (get_or firsts (flight_at end connection) 0) 0 within))
      (subst (λ n. IsNextAt end (flight_at end d) connections (n + 1)
      (get_or firsts (flight_at end connection) 0)) (sym same)
      (subst (λ (c : Connection). IsNextAt end (flight_at end c) connections (k + 1)
      (get_or firsts (flight_at end connection) 0)) (sym one)
      (links.first (flight_at end connection) flight)))
  next_by k i firsts nexts connection d is here within from flight links (inr not) =
      subst (IsNextAt end (flight_at end d) connections (i + 1))
      (sym (get_or-set_other nexts k i (get_or firsts (flight_at end connection) 0) 0 not))
      (links.next i d (omega (arith, from, not)) here)

  -- one connection more: it is the first of its flight, and that which was leads on from it
  pub links_next : (k : ℕ) (firsts nexts : List ℕ) (connection : Connection)
      → slice_get connections k ≡ Some connection → k < length nexts
      → flight_at end connection < length firsts
      → AreLinks end connections (k + 1) firsts nexts
      → AreLinks end connections k (set firsts (flight_at end connection) k)
      (set nexts k (get_or firsts (flight_at end connection) 0))
  links_next k firsts nexts connection is within flight links = record {
    first = λ number inside.
        let there : number < length firsts =
        omega (arith, inside, length-set firsts (flight_at end connection) k) in
        first_by number k k connection firsts is there (links.first number there)
        (cases_eq number (flight_at end connection));
    next = λ i d from here. next_by k i firsts nexts connection d is here within from flight links
        (cases_eq i k);
  }

  -- the same by the flight's number, at the last connection that isn't linked yet
  pub link_one : (count : ℕ) (firsts nexts : List ℕ) (number : ℕ) (d : Connection) → 0 < count
      → count ≤ length connections → length nexts ≡ length connections
      → number ≡ flight_at end (get_or connections (count - 1) d)
      → All (λ c. flight_at end c < length firsts) connections
      → AreLinks end connections count firsts nexts
      → AreLinks end connections (count - 1) (set firsts number (count - 1))
      (set nexts (count - 1) (get_or firsts number 0))
  link_one count firsts nexts number d some within long is flights links =
      let connection = get_or connections (count - 1) d in
      subst (λ n. AreLinks end connections (count - 1) (set firsts n (count - 1))
      (set nexts (count - 1) (get_or firsts n 0))) (sym is)
      (links_next (count - 1) firsts nexts connection
      (slice_get-get_or connections (count - 1) d (omega arith)) (omega (arith, long))
      (All-get_or (λ (c : Connection). flight_at end c < length firsts) connections (count - 1) d
      (omega arith) flights)
      (subst (λ n. AreLinks end connections n firsts nexts) (omega arith) links))

  -- the turns from a connection of the flight are it and those from the next one on
  pub turn_next : (number at next : ℕ) (d : Connection) (before : List Turn)
      → at < length connections
      → ((connection : Connection) → slice_get connections at ≡ Some connection
      → flight_at end connection ≡ number)
      → IsNextAt end (flight_at end (get_or connections at d)) connections (at + 1) next
      → (before ++ turn_of end at (get_or connections at d) ∷ [])
      ++ turns_in end number next (drop next connections)
      ≡ before ++ turns_in end number at (drop at connections)
  turn_next number at next d before within here link =
      let connection = get_or connections at d in
      let is = slice_get-get_or connections at d within in
      let own = here connection is in
      let same = subst (λ n. turns_in end n (at + 1) (drop (at + 1) connections)
      ≡ turns_in end n next (drop next connections)) own link.same in
      append_assoc before (turn_of end at connection ∷ []) (turns_in end number next
      (drop next connections))
      ∙ ap (λ turns. before ++ turn_of end at connection ∷ turns) (sym same)
      ∙ ap (λ turns. before ++ turns) (sym (turn_of_own number at connection is own))
