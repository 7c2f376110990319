-- Bytes in blocks that run one after another.
use Rattle.std.proofs.Common.{◌≡◌, ℕ, ◌+◌, ◌*◌, ◌/◌, ◌%◌, ◌<◌, ◌≤◌, ◌≢◌, List, [], ◌∷◌, ◌++◌, length, get_or, set, take, replicate, sym, refl, ap, ap₂, ◌∙◌, inl, inr, arith, length-append, length-take-le}
use Rattle.std.specs.List.{All, Contains}
use Rattle.std.proofs.lemmas.List.{length-replicate, ext_get_or, get_or-set_same, get_or-set_other, length-set}
use Rattle.std.proofs.lemmas.Bool.{cases_eq}
use Rattle.std.proofs.lemmas.List.Concat.{get_or-flat_map}
use Rattle.std.proofs.lemmas.List.Elements.{All-head, All-tail, All-take, All-push, Contains-get_or}
use Rattle.block_pool.specs.Pool.{PoolState, contents, bytes_in, times, AreOf, AreApart, WritesTo}
use Rattle.block_pool.proofs.TimesLemmas.{same_place}
use Rattle.block_pool.proofs.LeaseLemmas.{once_leased, leased_below}

-- whole blocks with one more
pub whole_more : (blocks : List (List ℕ)) → All (λ bytes. length bytes ≡ 128) blocks → All (λ bytes. length bytes ≡ 128) (blocks ++ replicate 128 0 ∷ [])
whole_more blocks whole = All-push (λ bytes. length bytes ≡ 128) blocks (replicate 128 0) whole (length-replicate {A = ℕ} 128 0)

-- each of the blocks is whole in a pool
pub record AreWhole (pool : PoolState) (blocks : List ℕ) : Type 0 where
  pub whole : All (λ b. length (contents pool b) ≡ 128) blocks

-- blocks have 128 bytes each
pub length-bytes_in : (pool : PoolState) (blocks : List ℕ) → AreWhole pool blocks → length (bytes_in pool blocks) ≡ 128 * length blocks
length-bytes_in pool [] w = refl
length-bytes_in pool (b ∷ bs) w =
    let here : length (contents pool b) ≡ 128 = All-head (λ c. length (contents pool c) ≡ 128) b bs w.whole in
    let rest = length-bytes_in pool bs (record { whole = All-tail (λ c. length (contents pool c) ≡ 128) b bs w.whole }) in
    omega (arith, length-append (contents pool b) (bytes_in pool bs), here, rest)

-- the byte in a place of blocks is in the block that has that place
pub get_or-bytes_in : (pool : PoolState) (blocks : List ℕ) (q : ℕ) → AreWhole pool blocks → q < 128 * length blocks
    → get_or (bytes_in pool blocks) q 0 ≡ get_or (contents pool (get_or blocks (q / 128) 0)) (q % 128) 0
get_or-bytes_in pool blocks q w below =
    let k : ℕ = q / 128 in
    let inside : q / 128 < length blocks = omega arith in
    let whole : length (contents pool (get_or blocks (q / 128) 0)) ≡ 128 = w.whole (q / 128) 0 inside in
    let before : length (bytes_in pool (take (q / 128) blocks)) ≡ 128 * (q / 128) =
    length-bytes_in pool (take (q / 128) blocks) (record { whole = All-take (λ c. length (contents pool c) ≡ 128) (q / 128) blocks w.whole })
    ∙ ap (λ n. 128 * n) (length-take-le (q / 128) blocks (omega arith)) in
    let at : length (bytes_in pool (take (q / 128) blocks)) + q % 128 ≡ q = omega (arith, before) in
    ap (λ n. get_or (bytes_in pool blocks) n 0) (sym at)
    ∙ get_or-flat_map (contents pool) blocks (q / 128) (q % 128) 0 0 inside (omega (arith, whole))

-- a pool after a byte was put into a place of a block
abbrev pub put_at : PoolState → ℕ → ℕ → ℕ → PoolState
put_at pool b o v = record pool { blocks = set pool.blocks b (set (contents pool b) o v) }

-- that block is changed at that place
pub contents-put_same : (pool : PoolState) (b o v : ℕ) → b < length pool.blocks → contents (put_at pool b o v) b ≡ set (contents pool b) o v
contents-put_same pool b o v h = get_or-set_same pool.blocks b (set (contents pool b) o v) [] h

-- another block is not changed
pub contents-put_other : (pool : PoolState) (b o v c : ℕ) → c ≢ b → contents (put_at pool b o v) c ≡ contents pool c
contents-put_other pool b o v c h = get_or-set_other pool.blocks b c (set (contents pool b) o v) [] h

-- blocks are as long as before
pub length-contents-put : (pool : PoolState) (b o v c : ℕ) → b < length pool.blocks → length (contents (put_at pool b o v) c) ≡ length (contents pool c)
length-contents-put pool b o v c h = grind (arith, contents-put_same pool b o v h, contents-put_other pool b o v c, length-set (contents pool b) o v)

-- the byte in a place of blocks, of which none is twice, after a byte was put into a place
get_or-bytes_in_put : (pool : PoolState) (blocks : List ℕ) (p v q : ℕ) → AreWhole pool blocks → ((n : ℕ) → times n blocks ≤ 1) → p < 128 * length blocks
    → q < 128 * length blocks → get_or blocks (p / 128) 0 < length pool.blocks →
    get_or (contents (put_at pool (get_or blocks (p / 128) 0) (p % 128) v) (get_or blocks (q / 128) 0)) (q % 128) 0
    ≡ get_or (set (bytes_in pool blocks) p v) q 0
get_or-bytes_in_put pool blocks p v q w once hp hq inside =
    let b : ℕ = get_or blocks (p / 128) 0 in
    let o : ℕ = p % 128 in
    let whole : length (contents pool (get_or blocks (p / 128) 0)) ≡ 128 = w.whole (p / 128) 0 (omega arith) in
    let all_bytes = length-bytes_in pool blocks w in
    let before = get_or-bytes_in pool blocks q w hq in
    let in_block : p % 128 < length (contents pool (get_or blocks (p / 128) 0)) = omega (arith, whole) in
    elim (cases_eq (q / 128) (p / 128)) [
      | inl same ↦
          rw (same, contents-put_same pool b o v inside) (elim (cases_eq q p) [
            | inl here ↦
                rw here (get_or-set_same (contents pool b) o v 0 in_block ∙ sym (get_or-set_same (bytes_in pool blocks) p v 0 (omega (arith, all_bytes))))
            | inr there ↦
                let apart : q % 128 ≢ p % 128 = λ e. there (omega arith) in
                get_or-set_other (contents pool b) o (q % 128) v 0 apart
                ∙ ap (λ k. get_or (contents pool (get_or blocks k 0)) (q % 128) 0) (sym same)
                ∙ sym before ∙ sym (get_or-set_other (bytes_in pool blocks) p q v 0 there)
          ])
      | inr other ↦
          let not_there : q ≢ p = λ e. other (ap (λ n. n / 128) e) in
          let other_block : get_or blocks (q / 128) 0 ≢ get_or blocks (p / 128) 0 =
          λ e. other (same_place blocks (q / 128) (p / 128) (omega arith) (omega arith) once e) in
          ap (λ xs. get_or xs (q % 128) 0) (contents-put_other pool b o v (get_or blocks (q / 128) 0) other_block)
          ∙ sym before ∙ sym (get_or-set_other (bytes_in pool blocks) p q v 0 not_there)
    ]

-- blocks of which none is twice, with a byte put into a place, are changed at that place
pub bytes_in_put : (pool : PoolState) (blocks : List ℕ) (p v : ℕ) → AreWhole pool blocks → ((n : ℕ) → times n blocks ≤ 1) → p < 128 * length blocks
    → get_or blocks (p / 128) 0 < length pool.blocks →
    bytes_in (put_at pool (get_or blocks (p / 128) 0) (p % 128) v) blocks ≡ set (bytes_in pool blocks) p v
bytes_in_put pool blocks p v w once below inside =
    let b : ℕ = get_or blocks (p / 128) 0 in
    let new : PoolState = put_at pool (get_or blocks (p / 128) 0) (p % 128) v in
    let w2 : AreWhole new blocks = record { whole = λ k d h. length-contents-put pool b (p % 128) v (get_or blocks k d) inside ∙ w.whole k d h } in
    let old_len = length-bytes_in pool blocks w in
    let new_len = length-bytes_in new blocks w2 in
    ext_get_or 0 (bytes_in new blocks) (set (bytes_in pool blocks) p v) (omega (arith, old_len, new_len, length-set (bytes_in pool blocks) p v)) (λ q h.
    let below_q : q < 128 * length blocks = omega (arith, new_len, h) in
    get_or-bytes_in new blocks q w2 below_q ∙ get_or-bytes_in_put pool blocks p v q w once below below_q inside)

-- leased blocks are whole where all are
pub whole_leased : (pool : PoolState) (blocks : List ℕ) → All (λ bytes. length bytes ≡ 128) pool.blocks → AreOf pool blocks → AreWhole pool blocks
whole_leased pool blocks whole leased = record { whole = λ k d h. whole (get_or blocks k d) [] (leased_below pool blocks leased k d h) }

-- a byte put into a block of a lease, at a place in it, is put into the lease's bytes
pub bytes_in_put_leased : (old new : PoolState) (blocks : List ℕ) (p v b : ℕ) → All (λ bytes. length bytes ≡ 128) old.blocks → AreOf old blocks
    → p < 128 * length blocks → b ≡ get_or blocks (p / 128) 0 →
    new.blocks ≡ set old.blocks b (set (contents old b) (p % 128) v) → bytes_in new blocks ≡ set (bytes_in old blocks) p v
bytes_in_put_leased old new blocks p v b whole leased below is put =
    let inside : p / 128 < length blocks = omega arith in
    let step : new.blocks ≡ (put_at old (get_or blocks (p / 128) 0) (p % 128) v).blocks =
    put ∙ ap (λ n. set old.blocks n (set (contents old n) (p % 128) v)) is in
    ap (λ bs. bytes_in (record { blocks = bs; free = old.free }) blocks) step
    ∙ bytes_in_put old blocks p v (whole_leased old blocks whole leased) (once_leased old blocks leased) below
    (leased_below old blocks leased (p / 128) 0 inside)

-- blocks whose contents are the same lay the same bytes
pub bytes_in_same : (old new : PoolState) (blocks : List ℕ) → All (λ b. contents new b ≡ contents old b) blocks → bytes_in new blocks ≡ bytes_in old blocks
bytes_in_same old new [] same = refl
bytes_in_same old new (b ∷ bs) same =
    ap₂ (λ (xs ys : List ℕ). xs ++ ys) (All-head (λ c. contents new c ≡ contents old c) b bs same)
    (bytes_in_same old new bs (All-tail (λ c. contents new c ≡ contents old c) b bs same))

-- what is written to blocks leaves the bytes of others
pub bytes_in_apart : (old new : PoolState) (blocks others : List ℕ) → WritesTo blocks old new → AreApart blocks others
    → bytes_in new others ≡ bytes_in old others
bytes_in_apart old new blocks others writes apart =
    bytes_in_same old new others (λ k d h. writes.others (get_or others k d) (λ own. apart (get_or others k d) own (Contains-get_or others k d h)))

-- no write leaves all as it is
pub writes_none : (own : List ℕ) (pool : PoolState) → WritesTo own pool pool
writes_none own pool = record { free = refl; size = refl; others = λ n apart. refl }

-- what is written to blocks is written to blocks that contain them
pub writes_wider : (own wider : List ℕ) (old new : PoolState) → ((n : ℕ) → Contains own n → Contains wider n) → WritesTo own old new → WritesTo wider old new
writes_wider own wider old new within writes = record {
  free = writes.free;
  size = writes.size;
  others = λ n apart. writes.others n (λ here. apart (within n here));
}

-- two writes to the same blocks are one
pub writes_in_turn : (own : List ℕ) (old middle new : PoolState) → WritesTo own old middle → WritesTo own middle new → WritesTo own old new
writes_in_turn own old middle new first second = record {
  free = second.free ∙ first.free;
  size = second.size ∙ first.size;
  others = λ n apart. second.others n apart ∙ first.others n apart;
}
