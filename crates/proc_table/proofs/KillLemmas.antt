-- The processes that another sees or may signal, by their slots.
use Rattle.std.proofs.Common.{◌≡◌, ℕ, ◌+◌, ◌<◌, Bool, true, false, cond, List, [], ◌∷◌, ◌++◌, map, length, Option, Some, None, option_map, option_and_then, refl, ap, ap₂, sym, ◌∙◌}
use Rattle.std.proofs.Common.{get_or, take, append-nil}
use Rattle.std.specs.Prelude.{◌==◌, filter, filter_map, is_none, slice_get}
use Rattle.std.specs.List.{cons_option}
use Rattle.std.proofs.lemmas.List.{take_more, length-map}
use Rattle.std.proofs.lemmas.List.Elements.{filter_map-append}
use Rattle.sys_types.specs.declared.rules.Rule.{Rule}
use Rattle.sys_types.specs.declared.rules.Rule.TheVariants.{NoProcess}
use Rattle.call_words.specs.declared.signal.To.{To}
use Rattle.proc_table.specs.Processes.{Process, Processes, process_at, with_process, holds}
use Rattle.proc_table.specs.Kills.{kill_rule, is_named_and_seen, receivers, receiver_pid, kill_refusal}

-- entries that pass a test are those of the slots whose processes pass it
pub entries-filtered : {D : Type 0} (test : Process D → Bool) (t : Processes D) (slots : List ℕ)
    → filter_map (with_process t) (filter (λ slot. holds test (process_at t slot)) slots)
    ≡ filter (λ (e : ℕ × Process D). test e.1) (filter_map (with_process t) slots)
entries-filtered test t [] = refl
entries-filtered {D} test t (slot ∷ slots) = one (process_at t slot) refl (entries-filtered test t slots)
  where
    kept : (p : Process D) (b : Bool) → test p ≡ b → process_at t slot ≡ Some p
        → filter_map (with_process t) (filter (λ slot. holds test (process_at t slot)) slots)
        ≡ filter (λ (e : ℕ × Process D). test e.1) (filter_map (with_process t) slots)
        → filter_map (with_process t) (cond b (slot ∷ filter (λ slot. holds test (process_at t slot)) slots)
        (filter (λ slot. holds test (process_at t slot)) slots))
        ≡ cond b ((slot, p) ∷ filter (λ (e : ℕ × Process D). test e.1) (filter_map (with_process t) slots))
        (filter (λ (e : ℕ × Process D). test e.1) (filter_map (with_process t) slots))
    kept p true passes is rest = ap₂ cons_option (ap (option_map (λ p. (slot, p))) is) rest
    kept p false passes is rest = rest

    one : (o : Option (Process D)) → process_at t slot ≡ o
        → filter_map (with_process t) (filter (λ slot. holds test (process_at t slot)) slots)
        ≡ filter (λ (e : ℕ × Process D). test e.1) (filter_map (with_process t) slots)
        → filter_map (with_process t) (filter (λ slot. holds test (process_at t slot)) (slot ∷ slots))
        ≡ filter (λ (e : ℕ × Process D). test e.1) (filter_map (with_process t) (slot ∷ slots))
    one None is rest = rw is rest
    one (Some p) is rest = rw is (kept p (test p) refl is rest)

-- one more element of a list of which some have an answer
pub answers-more : {A B : Type 0} (how : A → Option B) (xs : List A) (i : ℕ) (d : A) → i < length xs
    → filter_map how (take (i + 1) xs) ≡ filter_map how (take i xs) ++ cons_option (how (get_or xs i d)) []
answers-more how xs i d within =
    ap (filter_map how) (take_more xs i d within) ∙ filter_map-append how (take i xs) (get_or xs i d ∷ [])

pub answered : {A B : Type 0} (how : A → Option B) (xs : List A) (i : ℕ) (d : A) (b : B) → i < length xs → how (get_or xs i d) ≡ Some b
    → filter_map how (take (i + 1) xs) ≡ filter_map how (take i xs) ++ b ∷ []
answered how xs i d b within is = answers-more how xs i d within ∙ ap (λ o. filter_map how (take i xs) ++ cons_option o []) is

pub unanswered : {A B : Type 0} (how : A → Option B) (xs : List A) (i : ℕ) (d : A) → i < length xs → how (get_or xs i d) ≡ None
    → filter_map how (take (i + 1) xs) ≡ filter_map how (take i xs)
unanswered how xs i d within is =
    answers-more how xs i d within ∙ ap (λ o. filter_map how (take i xs) ++ cons_option o []) is ∙ append-nil (filter_map how (take i xs))

filter-through : {A B : Type 0} (g : A → B) (test : B → Bool) (xs : List A) → filter test (map g xs) ≡ map g (filter (λ x. test (g x)) xs)
filter-through g test [] = refl
filter-through {A} {B} g test (x ∷ xs) = one (test (g x)) (filter-through g test xs)
  where
    one : (b : Bool) → filter test (map g xs) ≡ map g (filter (λ x. test (g x)) xs)
        → cond b (g x ∷ filter test (map g xs)) (filter test (map g xs)) ≡ map g (cond b (x ∷ filter (λ x. test (g x)) xs) (filter (λ x. test (g x)) xs))
    one true rest = ap (λ ys. g x ∷ ys) rest
    one false rest = rest

-- the processes of some slots
abbrev pub processes-of : {D : Type 0} → Processes D → List ℕ → List (Process D)
processes-of t slots = map (λ (e : ℕ × Process _). e.1) (filter_map (with_process t) slots)

pub processes-filtered : {D : Type 0} (test : Process D → Bool) (t : Processes D) (slots : List ℕ)
    → processes-of t (filter (λ slot. holds test (process_at t slot)) slots) ≡ filter test (processes-of t slots)
processes-filtered {D} test t slots =
    ap (map (λ (e : ℕ × Process D). e.1)) (entries-filtered test t slots)
    ∙ sym (filter-through (λ (e : ℕ × Process D). e.1) test (filter_map (with_process t) slots))

-- the pids of those that may be signalled, by their slots
pub pids-by-slot : {D : Type 0} (who : Process D) (t : Processes D) (slots : List ℕ)
    → filter_map (λ slot. option_and_then (receiver_pid who) (process_at t slot)) slots
    ≡ map (λ (p : Process D). p.pid) (receivers who (processes-of t slots))
pids-by-slot who t [] = refl
pids-by-slot {D} who t (slot ∷ slots) = one (process_at t slot) (pids-by-slot who t slots)
  where
    signalled : (p : Process D) (b : Bool) → filter_map (λ slot. option_and_then (receiver_pid who) (process_at t slot)) slots
        ≡ map (λ (p : Process D). p.pid) (receivers who (processes-of t slots))
        → cons_option (cond b (Some p.pid) None) (filter_map (λ slot. option_and_then (receiver_pid who) (process_at t slot)) slots)
        ≡ map (λ (p : Process D). p.pid) (cond b (p ∷ receivers who (processes-of t slots)) (receivers who (processes-of t slots)))
    signalled p true rest = ap (λ pids. p.pid ∷ pids) rest
    signalled p false rest = rest

    one : (o : Option (Process D)) → filter_map (λ slot. option_and_then (receiver_pid who) (process_at t slot)) slots
        ≡ map (λ (p : Process D). p.pid) (receivers who (processes-of t slots))
        → cons_option (option_and_then (receiver_pid who) o) (filter_map (λ slot. option_and_then (receiver_pid who) (process_at t slot)) slots)
        ≡ map (λ (p : Process D). p.pid) (receivers who (map (λ (e : ℕ × Process D). e.1)
        (cons_option (option_map (λ p. (slot, p)) o) (filter_map (with_process t) slots))))
    one None rest = rest
    one (Some p) rest = signalled p (is_none (kill_rule who p)) rest

pub pids_to_signal-by-slot : {D : Type 0} (who : Process D) (whom : To) (t : Processes D) (slots : List ℕ)
    → filter_map (λ slot. option_and_then (receiver_pid who) (process_at t slot))
    (filter (λ slot. holds (is_named_and_seen who whom) (process_at t slot)) slots)
    ≡ map (λ (p : Process D). p.pid) (receivers who (filter (is_named_and_seen who whom) (processes-of t slots)))
pids_to_signal-by-slot {D} who whom t slots =
    pids-by-slot who t (filter (λ slot. holds (is_named_and_seen who whom) (process_at t slot)) slots)
    ∙ ap (λ seen. map (λ (p : Process D). p.pid) (receivers who seen)) (processes-filtered (is_named_and_seen who whom) t slots)

-- why nobody of some slots may be signalled
abbrev pub refusal-of : {D : Type 0} → Process D → Processes D → List ℕ → Option Rule
refusal-of who t [] = Some NoProcess
refusal-of who t (slot ∷ slots) =
    cond (length (filter_map (λ slot. option_and_then (receiver_pid who) (process_at t slot)) (slot ∷ slots)) == 0)
    (option_and_then (kill_rule who) (process_at t slot)) None

pub refusal-by-slot : {D : Type 0} (who : Process D) (test : Process D → Bool) (t : Processes D) (slots : List ℕ)
    → refusal-of who t (filter (λ slot. holds test (process_at t slot)) slots) ≡ kill_refusal who (filter test (processes-of t slots))
refusal-by-slot {D} who test t slots =
    first slots ∙ ap (kill_refusal who) (processes-filtered test t slots)
  where
    at : (slot : ℕ) (rest : List ℕ) (p : Process D) → process_at t slot ≡ Some p → refusal-of who t (slot ∷ rest) ≡ kill_refusal who (processes-of t (slot ∷ rest))
    at slot rest p is =
        ap₂ (λ n (o : Option (Process D)). cond (n == 0) (option_and_then (kill_rule who) o) None)
        (ap length (pids-by-slot who t (slot ∷ rest)) ∙ length-map (receivers who (processes-of t (slot ∷ rest))) (λ (p : Process D). p.pid))
        is
        ∙ ap (λ seen. cond (length (receivers who seen) == 0) (kill_rule who p) None)
        (ap (λ (o : Option (Process D)). map (λ (e : ℕ × Process D). e.1) (cons_option (option_map (λ p. (slot, p)) o) (filter_map (with_process t) rest))) is)
        ∙ ap (λ (o : Option (Process D)). kill_refusal who (map (λ (e : ℕ × Process D). e.1)
        (cons_option (option_map (λ p. (slot, p)) o) (filter_map (with_process t) rest)))) (sym is)

    first : (slots : List ℕ) → refusal-of who t (filter (λ slot. holds test (process_at t slot)) slots)
        ≡ kill_refusal who (processes-of t (filter (λ slot. holds test (process_at t slot)) slots))
    first [] = refl
    first (slot ∷ slots) = one (process_at t slot) refl (first slots)
      where
        kept : (p : Process D) (b : Bool) → process_at t slot ≡ Some p
            → refusal-of who t (filter (λ slot. holds test (process_at t slot)) slots)
            ≡ kill_refusal who (processes-of t (filter (λ slot. holds test (process_at t slot)) slots))
            → refusal-of who t (cond b (slot ∷ filter (λ slot. holds test (process_at t slot)) slots) (filter (λ slot. holds test (process_at t slot)) slots))
            ≡ kill_refusal who (processes-of t (cond b (slot ∷ filter (λ slot. holds test (process_at t slot)) slots)
            (filter (λ slot. holds test (process_at t slot)) slots)))
        kept p true is rest = at slot (filter (λ slot. holds test (process_at t slot)) slots) p is
        kept p false is rest = rest

        one : (o : Option (Process D)) → process_at t slot ≡ o
            → refusal-of who t (filter (λ slot. holds test (process_at t slot)) slots)
            ≡ kill_refusal who (processes-of t (filter (λ slot. holds test (process_at t slot)) slots))
            → refusal-of who t (cond (holds test o) (slot ∷ filter (λ slot. holds test (process_at t slot)) slots)
            (filter (λ slot. holds test (process_at t slot)) slots))
            ≡ kill_refusal who (processes-of t (cond (holds test o) (slot ∷ filter (λ slot. holds test (process_at t slot)) slots)
            (filter (λ slot. holds test (process_at t slot)) slots)))
        one None is rest = rest
        one (Some p) is rest = kept p (test p) is rest

pub refusal-empty : {D : Type 0} (who : Process D) (t : Processes D) (slots : List ℕ) → slice_get slots 0 ≡ None → refusal-of who t slots ≡ Some NoProcess
refusal-empty who t [] is = refl
refusal-empty who t (slot ∷ slots) is = absurd cc

pub refusal-none : {D : Type 0} (who : Process D) (t : Processes D) (slots : List ℕ) (first : ℕ) → slice_get slots 0 ≡ Some first
    → (length (filter_map (λ slot. option_and_then (receiver_pid who) (process_at t slot)) slots) == 0) ≡ false → refusal-of who t slots ≡ None
refusal-none who t [] first is some = absurd cc
refusal-none who t (slot ∷ slots) first is some = ap (λ b. cond b (option_and_then (kill_rule who) (process_at t slot)) None) some

pub refusal-first : {D : Type 0} (who : Process D) (t : Processes D) (slots : List ℕ) (first : ℕ) → slice_get slots 0 ≡ Some first
    → (length (filter_map (λ slot. option_and_then (receiver_pid who) (process_at t slot)) slots) == 0) ≡ true
    → refusal-of who t slots ≡ option_and_then (kill_rule who) (process_at t first)
refusal-first who t [] first is none = absurd cc
refusal-first who t (slot ∷ slots) first is none =
    ap (λ b. cond b (option_and_then (kill_rule who) (process_at t slot)) None) none
    ∙ ap (λ at. option_and_then (kill_rule who) (process_at t at)) (some-injective is)
  where
    some-injective : {a b : ℕ} → Some a ≡ Some b → a ≡ b
    some-injective is = cc
