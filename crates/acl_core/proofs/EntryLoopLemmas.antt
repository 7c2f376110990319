-- Reading the entries of a list one after another, as a loop does.
use Rattle.std.proofs.Common.{◌≡◌, ℕ, suc, ◌+◌, ◌-◌, ◌<◌, List, [], ◌∷◌, ◌++◌, length, Result, Ok, Err, refl, sym, ap, ◌∙◌, append_assoc, arith}
use Rattle.acl_core.specs.declared.entry.Entry.{Entry}
use Rattle.acl_core.specs.declared.fault.Stop.{Stop}
use Rattle.acl_core.specs.Reading.{◌>>=◌, next_at, more_at, entry_at, entries_at}

-- the entries in front of those that are read
abbrev pub after : List Entry → Result (List Entry) Stop → Result (List Entry) Stop
after front read = read >>= λ others. Ok (front ++ others)

-- an entry at the end of those in front comes before the others
regroup : (front : List Entry) (e : Entry) (read : Result (List Entry) Stop) → after front (read >>= λ others. Ok (e ∷ others)) ≡ after (front ++ e ∷ []) read
regroup front e (Ok others) = ap (λ (list : List Entry). Ok list) (sym (append_assoc front (e ∷ []) others))
regroup front e (Err stop) = refl

-- where bytes are left, a comma and an entry are read
pub one_more : (room : ℕ) (bytes : List ℕ) → 0 < length bytes
    → more_at (suc room) bytes ≡ (next_at bytes >>= λ next. more_at room next.1 >>= λ others. Ok (next.0 ∷ others))
unfolding more_at
one_more room [] h = absurd (omega arith)
one_more room (b ∷ bytes) h = refl

-- with one entry more in front, one fewer may come
pub goes_on : (most n : ℕ) (front : List Entry) (bytes : List ℕ) (e : Entry) (rest : List ℕ) (total : Result (List Entry) Stop) → n < most → 0 < length bytes
    → next_at bytes ≡ Ok (e, rest)
    → after front (more_at (most - n) bytes) ≡ total → after (front ++ e ∷ []) (more_at (most - (n + 1)) rest) ≡ total
goes_on most n front bytes e rest total lt some read so_far =
    let room : most - n ≡ suc (most - (n + 1)) = omega arith in
    let step : after front (more_at (most - n) bytes) ≡ after (front ++ e ∷ []) (more_at (most - (n + 1)) rest) =
    rw (room, one_more (most - (n + 1)) bytes some, read) (regroup front e (more_at (most - (n + 1)) rest)) in
    sym step ∙ so_far

-- a fault in the next entry is the fault of the whole
pub stops : (most n : ℕ) (front : List Entry) (bytes : List ℕ) (stop : Stop) (total : Result (List Entry) Stop) → n < most → 0 < length bytes
    → next_at bytes ≡ Err stop
    → after front (more_at (most - n) bytes) ≡ total → total ≡ Err stop
stops most n front bytes stop total lt some read so_far =
    let room : most - n ≡ suc (most - (n + 1)) = omega arith in
    let step : after front (more_at (most - n) bytes) ≡ Err stop = rw (room, one_more (most - (n + 1)) bytes some, read) refl in
    sym so_far ∙ step

-- behind the first entry the others are read
pub starts : (bytes : List ℕ) (e : Entry) (rest : List ℕ) → entry_at bytes ≡ Ok (e, rest) → after (e ∷ []) (more_at 63 rest) ≡ entries_at bytes
unfolding entries_at
starts bytes e rest read = rw read refl
