-- A list of bytes in a circle of blocks.
use Rattle.std.proofs.Common.{◌≡◌, ℕ, zero, suc, ◌+◌, ◌-◌, ◌*◌, ◌%◌, ◌<◌, ◌≤◌, ◌≢◌, ◌⊎◌, inl, inr, List, [], ◌∷◌, ◌++◌, length, get_or, set, take, drop, map, sym, refl, ap, ap₂, ◌∙◌, arith, mod-eq_of_lt, add-one, append_assoc, append-nil}
use Rattle.std.specs.List.{All, range_with_len}
use Rattle.std.proofs.Math.Nat.{mod-eq-sub-mod, mod-add-mod}
use Rattle.std.proofs.lemmas.Bool.{cases_lt}
use Rattle.std.proofs.Math.Seq.{paste}
use Rattle.std.proofs.lemmas.List.{ext_get_or, get_or-set_same, get_or-set_other, take_more, drop_more, take_all}
use Rattle.std.proofs.lemmas.List.Edits.{paste_more, length-paste}
use Rattle.std.proofs.lemmas.List.FromFn.{length-map-range_with_len, get_or-map-range_with_len, map-range_with_len_more}
use Rattle.block_pool.specs.Pool.{PoolState, bytes_in, contents, AreApart, WritesTo}
use Rattle.block_pool.specs.Chain.{ChainState, holds}
use Rattle.block_pool.proofs.BlockLemmas.{bytes_in_same, bytes_in_apart}
use Rattle.block_pool.proofs.RunLemmas.{paste_none, paste_whole}

-- a place below twice the size goes round once at most
wraps_once : (size j : ℕ) → j < size + size → ((j < size) × (j % size ≡ j)) ⊎ ((size ≤ j) × (j % size ≡ j - size))
wraps_once size j below = elim (cases_lt j size) [
  | inl low ↦ inl (low, mod-eq_of_lt low)
  | inr high ↦ inr (high, mod-eq-sub-mod high ∙ mod-eq_of_lt (omega arith))
]

-- two places of a circle that are less than its size apart are not the same
mod_apart : (size a d : ℕ) → 0 < d → d < size → a % size ≢ (a + d) % size
mod_apart size a d some less same =
    let r : ℕ = a % size in
    let low : a % size < size = omega arith in
    let moved : (a % size + d) % size ≡ (a + d) % size = mod-add-mod a size d in
    elim (wraps_once size (a % size + d) (omega arith)) [
      | inl w ↦ omega (arith, w.0, w.1, moved, same)
      | inr w ↦ omega (arith, w.0, w.1, moved, same)
    ]

-- two functions that agree at the indices have the same values there
map_agree : (f g : ℕ → ℕ) (a b n : ℕ) → ((i : ℕ) → i < n → f (a + i) ≡ g (b + i)) → map f (range_with_len a n) ≡ map g (range_with_len b n)
map_agree f g a b n same =
    ext_get_or 0 _ _ (length-map-range_with_len f a n ∙ sym (length-map-range_with_len g b n)) (λ i h.
    let below : i < n = omega (arith, length-map-range_with_len f a n, h) in
    get_or-map-range_with_len f a n i (a + i) 0 below refl ∙ same i below ∙ sym (get_or-map-range_with_len g b n i (b + i) 0 below refl))

-- a chain holds as many bytes as it counts
pub length-holds : (pool : PoolState) (chain : ChainState) → length (holds pool chain) ≡ chain.count
unfolding holds
length-holds pool chain = length-map-range_with_len _ 0 chain.count

-- a chain that counts none holds none
pub holds-none : (pool : PoolState) (chain : ChainState) → chain.count ≡ 0 → holds pool chain ≡ []
unfolding holds
holds-none pool chain none = rw none refl

-- chains over blocks that lay the same bytes hold the same
holds_bytes_in : (old new : PoolState) (chain : ChainState) → bytes_in new chain.blocks ≡ bytes_in old chain.blocks → holds new chain ≡ holds old chain
unfolding holds
holds_bytes_in old new chain same = rw same refl

-- what a chain holds is read in its own blocks alone
pub holds_same : (old new : PoolState) (chain : ChainState) → All (λ b. contents new b ≡ contents old b) chain.blocks → holds new chain ≡ holds old chain
holds_same old new chain same = holds_bytes_in old new chain (bytes_in_same old new chain.blocks same)

-- what is written to blocks leaves what a chain over others holds
pub holds_apart : (blocks : List ℕ) (old new : PoolState) (chain : ChainState) → WritesTo blocks old new → AreApart blocks chain.blocks
    → holds new chain ≡ holds old chain
holds_apart blocks old new chain writes apart = holds_bytes_in old new chain (bytes_in_apart old new blocks chain.blocks writes apart)

-- the list of bytes that begins at a place of a circle
abbrev held : List ℕ → ℕ → ℕ → ℕ → List ℕ
held bytes first count size = map (λ i. get_or bytes ((first + i) % size) 0) (range_with_len 0 count)

-- a byte put behind the last is added at the end
held_push : (old new : List ℕ) (first count size v : ℕ) → count < size → length old ≡ size → new ≡ set old ((first + count) % size) v
    → held new first (count + 1) size ≡ held old first count size ++ v ∷ []
held_push old new first count size v room is_length put =
    let f : ℕ → ℕ = λ i. get_or new ((first + i) % size) 0 in
    let g : ℕ → ℕ = λ i. get_or old ((first + i) % size) 0 in
    map-range_with_len_more f 0 count count (omega arith)
    ∙ ap₂ (λ (xs : List ℕ) (y : ℕ). xs ++ y ∷ []) (map_agree f g 0 0 count (λ i h.
    let from_zero : first + (0 + i) ≡ first + i = omega arith in
    let up_to_count : first + i + (count - i) ≡ first + count = omega arith in
    let apart : (first + (0 + i)) % size ≢ (first + count) % size =
    λ e. mod_apart size (first + i) (count - i) (omega arith) (omega arith) (cc) in
    rw put (get_or-set_other old ((first + count) % size) ((first + (0 + i)) % size) v 0 apart)))
    (let inside : (first + count) % size < length old = omega arith in
    rw put (get_or-set_same old ((first + count) % size) v 0 inside))

-- the first byte is the one at the first place
held_front : (bytes : List ℕ) (first count size : ℕ) → 0 < count
    → held bytes first count size ≡ get_or bytes (first % size) 0 ∷ held bytes ((first + 1) % size) (count - 1) size
held_front bytes first zero size some = elim some [ ]
held_front bytes first (suc count) size some =
    let f : ℕ → ℕ = λ i. get_or bytes ((first + i) % size) 0 in
    let g : ℕ → ℕ = λ i. get_or bytes (((first + 1) % size + i) % size) 0 in
    let at_first : (first + 0) % size ≡ first % size = ap (λ n. n % size) (omega arith) in
    let one_less : suc count - 1 ≡ count = omega arith in
    rw one_less (ap₂ (λ (x : ℕ) (xs : List ℕ). x ∷ xs) (ap (λ n. get_or bytes n 0) at_first) (map_agree f g 1 0 count (λ i h.
    let next : (first + (1 + i)) % size ≡ ((first + 1) % size + (0 + i)) % size =
    ap (λ n. n % size) (omega arith) ∙ sym (mod-add-mod (first + 1) size (0 + i)) in
    ap (λ n. get_or bytes n 0) next)))

-- bytes put behind the last, one after another, are added at the end
held_push_run : (bytes s : List ℕ) (first count size p n : ℕ) → p ≡ (first + count) % size → length bytes ≡ size → count + n ≤ size → p + n ≤ size
    → n ≤ length s → held (paste bytes p s n) first (count + n) size ≡ held bytes first count size ++ take n s
held_push_run bytes s first count size p zero is_place is_length room fits some =
    let none : count + 0 ≡ count = omega arith in
    rw (none, paste_none bytes s p) (sym (append-nil (held bytes first count size)))
held_push_run bytes s first count size p (suc n) is_place is_length room fits some =
    let v : ℕ = get_or s n 0 in
    let part : List ℕ = paste bytes p s n in
    let before = held_push_run bytes s first count size p n is_place is_length (omega arith) (omega arith) (omega arith) in
    let place : (first + (count + n)) % size ≡ p + n =
    ap (λ k. k % size) (omega arith) ∙ sym (mod-add-mod (first + count) size n) ∙ ap (λ k. (k + n) % size) (sym is_place)
    ∙ mod-eq_of_lt (omega arith) in
    let more : paste bytes p s (n + 1) ≡ set part ((first + (count + n)) % size) v =
    sym (paste_more bytes p s n 0 (omega arith) (omega arith)) ∙ ap (λ k. set part k v) (sym place) in
    let long : length part ≡ size = length-paste bytes p s n (omega arith) (omega arith) ∙ is_length in
    let one : count + suc n ≡ count + n + 1 = omega arith in
    rw (one, ← add-one n)
    (held_push part (paste bytes p s (n + 1)) first (count + n) size v (omega arith) long more
    ∙ ap (λ (xs : List ℕ). xs ++ v ∷ []) before
    ∙ append_assoc (held bytes first count size) (take n s) (v ∷ [])
    ∙ ap (λ (xs : List ℕ). held bytes first count size ++ xs) (sym (take_more s n 0 (omega arith))))

-- the first bytes are those from the first place on, as far as the places go on one by one
held_pop_run : (bytes : List ℕ) (first count size p n : ℕ) → n ≤ count → p + n ≤ length bytes → ((i : ℕ) → i < n → (first + i) % size ≡ p + i)
    → held bytes first count size ≡ take n (drop p bytes) ++ held bytes ((first + n) % size) (count - n) size
held_pop_run bytes first count size p zero enough inside places =
    let f : ℕ → ℕ = λ i. get_or bytes ((first + i) % size) 0 in
    let g : ℕ → ℕ = λ i. get_or bytes (((first + 0) % size + i) % size) 0 in
    let all : count - 0 ≡ count = omega arith in
    rw all (map_agree f g 0 0 count (λ i h.
    let same : (first + (0 + i)) % size ≡ ((first + 0) % size + (0 + i)) % size =
    ap (λ n. n % size) (omega arith) ∙ sym (mod-add-mod (first + 0) size (0 + i)) in
    ap (λ n. get_or bytes n 0) same))
held_pop_run bytes first count size p (suc n) enough inside places =
    let here : first % size ≡ p = ap (λ k. k % size) (omega arith) ∙ places 0 (omega arith) ∙ omega arith in
    let rest = held_pop_run bytes ((first + 1) % size) (count - 1) size (p + 1) n (omega arith) (omega arith) (λ i h.
    mod-add-mod (first + 1) size i ∙ ap (λ k. k % size) (omega arith) ∙ places (1 + i) (omega arith) ∙ omega arith) in
    let next : ((first + 1) % size + n) % size ≡ (first + suc n) % size = mod-add-mod (first + 1) size n ∙ ap (λ k. k % size) (omega arith) in
    let left : count - 1 - n ≡ count - suc n = omega arith in
    let more : drop p bytes ≡ get_or bytes p 0 ∷ drop (p + 1) bytes = drop_more bytes p 0 (omega arith) in
    held_front bytes first count size (omega arith) ∙ ap (λ k. get_or bytes k 0 ∷ held bytes ((first + 1) % size) (count - 1) size) here
    ∙ ap (λ xs. get_or bytes p 0 ∷ xs) rest
    ∙ ap₂ (λ (k m : ℕ). get_or bytes p 0 ∷ (take n (drop (p + 1) bytes) ++ held bytes k m size)) next left
    ∙ ap (λ xs. take (suc n) xs ++ held bytes ((first + suc n) % size) (count - suc n) size) (sym more)

-- a byte put behind the last of a chain is added at the end
pub holds_push : (old new : PoolState) (blocks : List ℕ) (first count size v : ℕ) → 128 * length blocks ≡ size → count < size
    → length (bytes_in old blocks) ≡ size →
    bytes_in new blocks ≡ set (bytes_in old blocks) ((first + count) % size) v →
    holds new (record { blocks = blocks; first = first; count = count + 1 }) ≡ holds old (record { blocks = blocks; first = first; count = count }) ++ v ∷ []
unfolding holds
holds_push old new blocks first count size v is_size room is_length put =
    rw is_size (held_push (bytes_in old blocks) (bytes_in new blocks) first count size v room is_length put)

-- the first byte of a chain is the one at the first place
pub holds_front : (pool : PoolState) (blocks : List ℕ) (first count size : ℕ) → 128 * length blocks ≡ size → 0 < count →
    holds pool (record { blocks = blocks; first = first; count = count })
    ≡ get_or (bytes_in pool blocks) (first % size) 0 ∷ holds pool (record { blocks = blocks; first = (first + 1) % size; count = count - 1 })
unfolding holds
holds_front pool blocks first count size is_size some = rw is_size (held_front (bytes_in pool blocks) first count size some)

-- bytes put behind the last of a chain are added at the end
pub holds_push_run : (old new : PoolState) (blocks s : List ℕ) (first count size p : ℕ) → 128 * length blocks ≡ size → p ≡ (first + count) % size
    → length (bytes_in old blocks) ≡ size → count + length s ≤ size → p + length s ≤ size
    → bytes_in new blocks ≡ take p (bytes_in old blocks) ++ s ++ drop (p + length s) (bytes_in old blocks)
    → holds new (record { blocks = blocks; first = first; count = count + length s })
    ≡ holds old (record { blocks = blocks; first = first; count = count }) ++ s
unfolding holds
holds_push_run old new blocks s first count size p is_size is_place is_length room fits put =
    rw (is_size, put ∙ sym (paste_whole (bytes_in old blocks) s p))
    (held_push_run (bytes_in old blocks) s first count size p (length s) is_place is_length room fits (omega arith)
    ∙ ap (λ (xs : List ℕ). held (bytes_in old blocks) first count size ++ xs) (take_all (length s) s (omega arith)))

-- the first bytes of a chain are those from its first place on, as many as stand before the end of its blocks
pub holds_pop_run : (pool : PoolState) (blocks : List ℕ) (first count size n : ℕ) → 128 * length blocks ≡ size → 0 < size
    → length (bytes_in pool blocks) ≡ size → n ≤ count → first % size + n ≤ size
    → holds pool (record { blocks = blocks; first = first; count = count })
    ≡ take n (drop (first % size) (bytes_in pool blocks)) ++ holds pool (record { blocks = blocks; first = (first + n) % size; count = count - n })
unfolding holds
holds_pop_run pool blocks first count size n is_size some is_length enough fits =
    rw is_size (held_pop_run (bytes_in pool blocks) first count size (first % size) n enough (omega arith) (λ i h.
    sym (mod-add-mod first size i) ∙ mod-eq_of_lt (omega arith)))

-- the last byte is the one as many places on as there are before it
pub holds_back : (pool : PoolState) (blocks : List ℕ) (first count size : ℕ) → 128 * length blocks ≡ size → 0 < count →
    holds pool (record { blocks = blocks; first = first; count = count })
    ≡ holds pool (record { blocks = blocks; first = first; count = count - 1 }) ++ get_or (bytes_in pool blocks) ((first + (count - 1)) % size) 0 ∷ []
unfolding holds
holds_back pool blocks first count size is_size some =
    let f : ℕ → ℕ = λ i. get_or (bytes_in pool blocks) ((first + i) % (128 * length blocks)) 0 in
    let one_more : count ≡ count - 1 + 1 = omega arith in
    ap (λ n. map f (range_with_len 0 n)) one_more
    ∙ map-range_with_len_more f 0 (count - 1) (count - 1) (omega arith)
    ∙ ap (λ n. map f (range_with_len 0 (count - 1)) ++ get_or (bytes_in pool blocks) ((first + (count - 1)) % n) 0 ∷ []) is_size

pub ruleset circle = (length-holds, holds-none)
