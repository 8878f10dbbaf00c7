-- Lists of rows whose items are chained by links.
use Rattle.std.proofs.Common.{◌≡◌, ◌⊎◌, ℕ, zero, suc, ◌==◌, ◌+◌, ◌-◌, ◌<◌, ◌≤◌, List, [], ◌∷◌, ◌++◌, All, length, get_or, map, replicate, set, inl, inr, refl, sym, ap, ◌∙◌, subst, arith}
use Rattle.std.proofs.lemmas.Bool.{cases_eq, cond-false, cond-true, eq-eqb, ne_eqb}
use Rattle.std.proofs.lemmas.List.{append_assoc, get_or-map, get_or_append_left, length-append, length-map, length_push, map-set}
use Rattle.std.proofs.Math.Seq.{get_or-append_seam}
use Rattle.scaled_simplex.specs.declared.link.Link.{Link}
use Rattle.scaled_simplex.specs.Links.{AreLinks, Lists, chain, chains, link_at, no_link}

-- the list of a number that is, or isn't, that of the last of so many links
pub chain_here : (links : List Link) (n : ℕ) → chain links (suc n) (suc n)
    ≡ (link_at links n).row ∷ chain links n (link_at links n).next
chain_here links n =
    cond-true (suc n == suc n) ((link_at links n).row ∷ chain links n (link_at links n).next)
    (chain links n (suc n)) (eq-eqb (suc n) (suc n) refl)

chain_before : (links : List Link) (n first : ℕ) → (first ≡ suc n → ⊥)
    → chain links (suc n) first ≡ chain links n first
chain_before links n first other =
    cond-false (first == suc n) ((link_at links n).row ∷ chain links n (link_at links n).next)
    (chain links n first) (ne_eqb first (suc n) other)

-- later links don't change a list
chain_less : (links : List Link) (n first : ℕ) → first ≤ n
    → chain links n first ≡ chain links first first
chain_less links zero zero within = refl
chain_less links zero (suc first) within = absurd (omega (arith, within))
chain_less links (suc n) first within =
    by (λ before. chain_less links n first before) (cases_eq first (suc n))
  where
    by : (first ≤ n → chain links n first ≡ chain links first first)
        → (first ≡ suc n) ⊎ (first ≡ suc n → ⊥)
        → chain links (suc n) first ≡ chain links first first
    by less (inl same) = ap (λ k. chain links k first) (sym same)
    by less (inr other) =
        chain_before links n first other ∙ less (omega (arith, within, other))

-- a number that none has
chain_none : (links : List Link) (n : ℕ) → chain links n 0 ≡ []
chain_none links zero = refl
chain_none links (suc n) = chain_before links n 0 (λ same. omega (arith, same)) ∙ chain_none links n

-- so the row of a link is the first of its list, and the others are those of the next one
pub chain_next : (links : List Link) (k : ℕ) → (link_at links k).next ≤ k
    → chain links (suc k) (suc k) ≡ (link_at links k).row
    ∷ chain links (link_at links k).next (link_at links k).next
chain_next links k earlier =
    chain_here links k
    ∙ ap (λ l. (link_at links k).row ∷ l) (chain_less links k (link_at links k).next earlier)

pub chain_length : (links : List Link) (n first : ℕ) → length (chain links n first) ≤ n
chain_length links zero first = omega arith
chain_length links (suc n) first =
    by (λ k. chain_length links n k) (cases_eq first (suc n))
  where
    by : ((k : ℕ) → length (chain links n k) ≤ n) → (first ≡ suc n) ⊎ (first ≡ suc n → ⊥)
        → length (chain links (suc n) first) ≤ suc n
    by short (inl same) =
        let is = ap (λ k. chain links (suc n) k) same ∙ chain_here links n in
        let size = ap length is in
        let less = short (link_at links n).next in
        omega (arith, size, less)
    by short (inr other) =
        let size = ap length (chain_before links n first other) in
        let less = short first in
        omega (arith, size, less)

-- nor does a link that is added
chain_added : (links : List Link) (link : Link) (n first : ℕ) → n ≤ length links
    → chain (links ++ link ∷ []) n first ≡ chain links n first
chain_added links link zero first within = refl
chain_added links link (suc n) first within =
    by (λ k. chain_added links link n k (omega (arith, within))) (cases_eq first (suc n))
  where
    same_link : link_at (links ++ link ∷ []) n ≡ link_at links n
    same_link = get_or_append_left links (link ∷ []) no_link n (omega (arith, within))

    by : ((k : ℕ) → chain (links ++ link ∷ []) n k ≡ chain links n k)
        → (first ≡ suc n) ⊎ (first ≡ suc n → ⊥)
        → chain (links ++ link ∷ []) (suc n) first ≡ chain links (suc n) first
    by kept (inl same) =
        ap (λ k. chain (links ++ link ∷ []) (suc n) k) same
        ∙ chain_here (links ++ link ∷ []) n
        ∙ ap (λ (l : Link). l.row ∷ chain (links ++ link ∷ []) n l.next) same_link
        ∙ ap (λ l. (link_at links n).row ∷ l) (kept (link_at links n).next)
        ∙ sym (chain_here links n)
        ∙ ap (λ k. chain links (suc n) k) (sym same)
    by kept (inr other) =
        chain_before (links ++ link ∷ []) n first other ∙ kept first
        ∙ sym (chain_before links n first other)

-- what is the same of all items is the same of the list
map_same : {A : Type 0} {B : Type 0} (f g : A → B) (xs : List A) → All (λ x. f x ≡ g x) xs
    → map f xs ≡ map g xs
map_same f g [] all = refl
map_same f g (x ∷ xs) all =
    ap (λ y. y ∷ map f xs) (all 0 x (omega arith))
    ∙ ap (λ l. g x ∷ l) (map_same f g xs (λ i d within. all (suc i) d (omega (arith, within))))

-- a link is added, with which the list of an index begins
module _ (links : List Link) (firsts : List ℕ) (room capacity index : ℕ) (link : Link)
    (are : AreLinks links firsts room capacity) where
  abbrev more : List Link
  more = links ++ link ∷ []

  size : length more ≡ suc (length links)
  size = let long = length-append links (link ∷ []) in omega (arith, long)

  last : link_at more (length links) ≡ link
  last = get_or-append_seam links link [] no_link

  own : chain more (suc (length links)) (suc (length links))
      ≡ link.row ∷ chain links (length links) link.next
  own =
      chain_here more (length links)
      ∙ ap (λ (l : Link). l.row ∷ chain more (length links) l.next) last
      ∙ ap (λ l. link.row ∷ l) (chain_added links link (length links) link.next (omega arith))

  others : All (λ first. chain more (suc (length links)) first ≡ chain links (length links) first)
      firsts
  others i d inside =
      let small = are.first i d inside in
      chain_before more (length links) (get_or firsts i d) (λ same. omega (arith, same, small))
      ∙ chain_added links link (length links) (get_or firsts i d) (omega arith)

  pub begun_chains : (begun : List ℕ) → begun ≡ set firsts index (length links + 1)
      → chains more begun
      ≡ set (chains links firsts) index (link.row ∷ chain links (length links) link.next)
  begun_chains begun is =
      ap (λ l. chains more l) (is ∙ ap (λ n. set firsts index n) (omega arith))
      ∙ ap (λ n. map (chain more n) (set firsts index (suc (length links)))) size
      ∙ map-set (chain more (suc (length links))) firsts index (suc (length links))
      ∙ ap (λ l. set l index (chain more (suc (length links)) (suc (length links))))
      (map_same (chain more (suc (length links))) (chain links (length links)) firsts others)
      ∙ ap (set (chains links firsts) index) own

-- the list of an index
pub chain_of : (links : List Link) (firsts : List ℕ) (index first : ℕ) → index < length firsts
    → first ≡ get_or firsts index first
    → chain links (length links) first ≡ get_or (chains links firsts) index []
chain_of links firsts index first within is =
    ap (chain links (length links)) is
    ∙ sym (get_or-map (chain links (length links)) firsts index first [] within)

-- lists without a link
pub no_chains : (links : List Link) (count : ℕ)
    → chains links (replicate count 0) ≡ replicate count []
no_chains links count = all count
  where
    all : (count : ℕ) → chains links (replicate count 0) ≡ replicate count []
    all zero = refl
    all (suc count) =
        ap (λ l. l ∷ chains links (replicate count 0)) (chain_none links (length links))
        ∙ ap (λ l. [] ∷ l) (all count)

-- lists of a room, without a row
abbrev with_rows : ℕ → List (List ℕ) → Lists
with_rows room rows = record { rows = rows; count = 0; room = room }

pub no_lists : (count size room : ℕ) {links : List Link} {firsts : List ℕ} → links ≡ []
    → firsts ≡ replicate count 0 → size ≡ count → ◌≡◌ {A = Lists} (record {
      rows = chains links firsts;
      count = length links;
      room = room;
    }) (record { rows = replicate size []; count = 0; room = room })
no_lists count size room links_is firsts_is size_is =
    rw (links_is, firsts_is, size_is) (ap (with_rows room) (no_chains [] count))

-- one row alone
pub chain_one : (links : List Link) → chain links (length links) 0 ≡ []
chain_one links = chain_none links (length links)

pub index_within : (links : List Link) (firsts : List ℕ) (index : ℕ)
    → index < length (chains links firsts) → index < length firsts
index_within links firsts index within =
    let size = length-map firsts (chain links (length links)) in omega (arith, size, within)

-- what is written of a list, and what is still to be written
pub chain_begun : (links : List Link) (first : ℕ) → first ≤ length links
    → chain links first first ≡ chain links (length links) first
chain_begun links first within = sym (chain_less links (length links) first within)

pub chain_more : (links : List Link) (next : ℕ) (rows : List ℕ) → 0 < next
    → (link_at links (next - 1)).next ≤ next - 1
    → rows ++ chain links next next ≡ (rows ++ (link_at links (next - 1)).row ∷ [])
    ++ chain links (link_at links (next - 1)).next (link_at links (next - 1)).next
chain_more links zero rows some earlier = absurd (omega (arith, some))
chain_more links (suc k) rows some earlier =
    let same : suc k - 1 ≡ k = omega arith in
    subst (λ n. (link_at links n).next ≤ n
    → rows ++ chain links (suc k) (suc k) ≡ (rows ++ (link_at links n).row ∷ [])
    ++ chain links (link_at links n).next (link_at links n).next) (sym same)
    (λ before. ap (λ l. rows ++ l) (chain_next links k before)
    ∙ sym (append_assoc rows ((link_at links k).row ∷ [])
    (chain links (link_at links k).next (link_at links k).next))) earlier

pub chain_count : (rows : List ℕ) (row next later most : ℕ) → 0 < next → later ≤ next - 1
    → length rows + next ≤ most → length (rows ++ row ∷ []) + later ≤ most
chain_count rows row next later most some earlier within =
    let size = length_push rows row in omega (arith, size, some, earlier, within)
