-- Bytes that are written to one block at once, and read there at once.
use Rattle.std.proofs.Common.{◌≡◌, ℕ, zero, suc, ◌+◌, ◌-◌, ◌*◌, ◌/◌, ◌%◌, ◌<◌, ◌≤◌, List, [], ◌++◌, length, get_or, set, take, drop, sym, ap, ◌∙◌, arith, add-one, append-nil}
use Rattle.std.proofs.Math.Seq.{paste, take-length}
use Rattle.std.specs.List.{All}
use Rattle.std.proofs.lemmas.List.{ext_get_or, get_or-set_same, get_or-drop, get_or-take, set-set, set-get_or, length-set, length-drop, length-take-le, take-append-drop}
use Rattle.std.proofs.lemmas.List.Edits.{paste_more}
use Rattle.block_pool.specs.Pool.{PoolState, contents, bytes_in, times, AreOf}
use Rattle.block_pool.proofs.LeaseLemmas.{once_leased, leased_below}
use Rattle.block_pool.proofs.BlockLemmas.{AreWhole, put_at, length-bytes_in, get_or-bytes_in, length-contents-put, bytes_in_put, whole_leased}

-- none of the bytes pasted
pub paste_none : (d s : List ℕ) (at : ℕ) → paste d at s 0 ≡ d
paste_none d s at =
    let whole : at + 0 ≡ at = omega arith in
    ap (λ (xs : List ℕ). xs ++ drop (at + 0) d) (append-nil (take at d)) ∙ ap (λ k. take at d ++ drop k d) whole ∙ take-append-drop at d

-- all of them pasted
pub paste_whole : (d s : List ℕ) (at : ℕ) → paste d at s (length s) ≡ take at d ++ s ++ drop (at + length s) d
paste_whole d s at = ap (λ (xs : List ℕ). take at d ++ xs ++ drop (at + length s) d) (take-length s)

-- a pool after the first n of some bytes were put into a block, from a place on
abbrev pub run_at : PoolState → ℕ → ℕ → List ℕ → ℕ → PoolState
run_at pool b o s n = record pool { blocks = set pool.blocks b (paste (contents pool b) o s n) }

-- with none of them it is as it was
run_none : (pool : PoolState) (b o : ℕ) (s : List ℕ) → run_at pool b o s 0 ≡ pool
run_none pool b o s =
    ap (λ bs. record pool { blocks = bs }) (ap (λ d. set pool.blocks b d) (paste_none (contents pool b) s o) ∙ set-get_or pool.blocks b [])

-- with one more, that one is put in
run_more : (pool : PoolState) (b o : ℕ) (s : List ℕ) (n : ℕ) → b < length pool.blocks → o + n < length (contents pool b) → n < length s
    → run_at pool b o s (n + 1) ≡ put_at (run_at pool b o s n) b (o + n) (get_or s n 0)
run_more pool b o s n below inside some =
    let part : List ℕ = paste (contents pool b) o s n in
    let here : contents (run_at pool b o s n) b ≡ part = get_or-set_same pool.blocks b part [] below in
    ap (λ bs. record pool { blocks = bs })
    (ap (λ d. set pool.blocks b d) (sym (paste_more (contents pool b) o s n 0 inside some))
    ∙ sym (set-set pool.blocks b part (set part (o + n) (get_or s n 0)))
    ∙ ap (λ d. set (set pool.blocks b part) b (set d (o + n) (get_or s n 0))) (sym here))

-- blocks of which none is twice, with bytes put into one of them, are changed at those places
bytes_in_run : (pool : PoolState) (blocks : List ℕ) (p : ℕ) (s : List ℕ) (n : ℕ) → AreWhole pool blocks → ((k : ℕ) → times k blocks ≤ 1)
    → p < 128 * length blocks → get_or blocks (p / 128) 0 < length pool.blocks → p % 128 + n ≤ 128 → n ≤ length s →
    AreWhole (run_at pool (get_or blocks (p / 128) 0) (p % 128) s n) blocks
    × (bytes_in (run_at pool (get_or blocks (p / 128) 0) (p % 128) s n) blocks ≡ paste (bytes_in pool blocks) p s n)
bytes_in_run pool blocks p s zero w once below inside fits some =
    rw (run_none pool (get_or blocks (p / 128) 0) (p % 128) s) (w, sym (paste_none (bytes_in pool blocks) s p))
bytes_in_run pool blocks p s (suc n) w once below inside fits some =
    let b : ℕ = get_or blocks (p / 128) 0 in
    let o : ℕ = p % 128 in
    let v : ℕ = get_or s n 0 in
    let run : PoolState = run_at pool b o s n in
    let before = bytes_in_run pool blocks p s n w once below inside (omega arith) (omega arith) in
    let whole : length (contents pool b) ≡ 128 = w.whole (p / 128) 0 (omega arith) in
    let more : run_at pool b o s (n + 1) ≡ put_at run b (o + n) v = run_more pool b o s n inside (omega (arith, whole)) (omega arith) in
    let size : length run.blocks ≡ length pool.blocks = length-set pool.blocks b (paste (contents pool b) o s n) in
    let still : b < length run.blocks = omega (arith, size, inside) in
    let whole_more : AreWhole (put_at run b (o + n) v) blocks =
    record { whole = λ k d h. length-contents-put run b (o + n) v (get_or blocks k d) still ∙ before.0.whole k d h } in
    let block : (p + n) / 128 ≡ p / 128 = omega arith in
    let place : (p + n) % 128 ≡ p % 128 + n = omega arith in
    let at_block : get_or blocks ((p + n) / 128) 0 ≡ b = ap (λ k. get_or blocks k 0) block in
    let put : bytes_in (put_at run (get_or blocks ((p + n) / 128) 0) ((p + n) % 128) v) blocks ≡ set (bytes_in run blocks) (p + n) v =
    bytes_in_put run blocks (p + n) v before.0 once (omega arith) (rw at_block still) in
    let all_bytes = length-bytes_in pool blocks w in
    let pasted : bytes_in (put_at run b (o + n) v) blocks ≡ paste (bytes_in pool blocks) p s (n + 1) =
    ap (λ bs. bytes_in bs blocks) (ap (λ k. put_at run k (o + n) v) (sym at_block) ∙ ap (λ k. put_at run (get_or blocks ((p + n) / 128) 0) k v) (sym place))
    ∙ put ∙ ap (λ bs. set bs (p + n) v) before.1
    ∙ paste_more (bytes_in pool blocks) p s n 0 (omega (arith, all_bytes)) (omega arith) in
    rw (← add-one n, more) (whole_more, pasted)

-- bytes put into a block of a lease, from a place on, are put into the lease's bytes
pub bytes_in_run_leased : (old new : PoolState) (blocks : List ℕ) (p : ℕ) (s : List ℕ) (b : ℕ) → All (λ bytes. length bytes ≡ 128) old.blocks
    → AreOf old blocks → p < 128 * length blocks → p % 128 + length s ≤ 128 → b ≡ get_or blocks (p / 128) 0
    → new.blocks ≡ set old.blocks b (paste (contents old b) (p % 128) s (length s))
    → bytes_in new blocks ≡ take p (bytes_in old blocks) ++ s ++ drop (p + length s) (bytes_in old blocks)
bytes_in_run_leased old new blocks p s b whole leased below fits is put =
    let inside : p / 128 < length blocks = omega arith in
    let step : new.blocks ≡ (run_at old (get_or blocks (p / 128) 0) (p % 128) s (length s)).blocks =
    put ∙ ap (λ n. set old.blocks n (paste (contents old n) (p % 128) s (length s))) is in
    ap (λ bs. bytes_in (record { blocks = bs; free = old.free }) blocks) step
    ∙ (bytes_in_run old blocks p s (length s) (whole_leased old blocks whole leased) (once_leased old blocks leased) below
    (leased_below old blocks leased (p / 128) 0 inside) fits (omega arith)).1
    ∙ paste_whole (bytes_in old blocks) s p

-- the bytes of a block from a place on stand in the bytes of blocks from there on
pub run_in_block : (pool : PoolState) (blocks : List ℕ) (p : ℕ) → AreWhole pool blocks → p < 128 * length blocks
    → drop (p % 128) (contents pool (get_or blocks (p / 128) 0)) ≡ take (128 - p % 128) (drop p (bytes_in pool blocks))
run_in_block pool blocks p w below =
    let b : ℕ = get_or blocks (p / 128) 0 in
    let whole : length (contents pool b) ≡ 128 = w.whole (p / 128) 0 (omega arith) in
    let all_bytes = length-bytes_in pool blocks w in
    let rest : length (drop p (bytes_in pool blocks)) ≡ length (bytes_in pool blocks) - p = length-drop p (bytes_in pool blocks) in
    let one : length (drop (p % 128) (contents pool b)) ≡ 128 - p % 128 = length-drop (p % 128) (contents pool b) ∙ ap (λ n. n - p % 128) whole in
    let other : length (take (128 - p % 128) (drop p (bytes_in pool blocks))) ≡ 128 - p % 128 =
    length-take-le (128 - p % 128) (drop p (bytes_in pool blocks)) (omega (arith, rest, all_bytes)) in
    ext_get_or 0 _ _ (one ∙ sym other) (λ i h.
    let low : i < 128 - p % 128 = omega (arith, one, h) in
    let block : (p + i) / 128 ≡ p / 128 = omega arith in
    let place : (p + i) % 128 ≡ p % 128 + i = omega arith in
    get_or-drop (p % 128) (contents pool b) i 0
    ∙ ap (λ k. get_or (contents pool b) k 0) (sym place)
    ∙ ap (λ k. get_or (contents pool (get_or blocks k 0)) ((p + i) % 128) 0) (sym block)
    ∙ sym (get_or-bytes_in pool blocks (p + i) w (omega arith))
    ∙ sym (get_or-drop p (bytes_in pool blocks) i 0)
    ∙ sym (get_or-take (128 - p % 128) (drop p (bytes_in pool blocks)) i 0 low))
