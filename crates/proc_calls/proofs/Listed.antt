-- The text of ps(1): all processes that are seen fit it.
use Rattle.std.proofs.Common.{◌≡◌, ℕ, ◌+◌, ◌*◌, ◌≤◌, Bool, true, false, cond, List, [], ◌∷◌, ◌++◌, map, length, Option, Some, None, option_map}
use Rattle.std.proofs.Common.{refl, sym, ap, ap₂, ◌∙◌, subst, arith}
use Rattle.std.specs.Prelude.{All, filter, filter_map, codes}
use Rattle.std.proofs.Common.{◌<◌, take, get_or}
use Rattle.std.specs.List.{AllByRecursion, cons_option}
use Rattle.std.proofs.lemmas.Bool.Decides.{nat_tests}
use Rattle.std.proofs.lemmas.List.{append_assoc, append-nil, length-append, length-map, take_more}
use Rattle.std.proofs.lemmas.Grind.{flat_map-append}
use Rattle.std.proofs.lemmas.List.Elements.{recursion_from_All}
use Rattle.sys_types.specs.declared.limits.TheConstants.{SLOTS}
use Rattle.tree_model.specs.Listing.{join_names, fits, most_that_fit, names_text}
use Rattle.tree_model.specs.Numbers.{path_of}
use Rattle.proc_table.specs.Kills.{is_seen, processes_seen}
use Rattle.proc_table.specs.Listing.{process_text}
use Rattle.proc_table.specs.Processes.{Process, Processes, process_at, with_process, holds, map_process, map_processes}
use Rattle.proc_table.proofs.MapLemmas.{map_entry}
use Rattle.proc_table.proofs.CallMapLemmas.{processes_seen-map, process_text-map}
use Rattle.system_model.specs.ProcCalls.{ps_text}
use Rattle.system_model.specs.Tables.{Tables, seen_process, view_of}
use Rattle.proc_calls.specs.PsTexts.{text_of, text_at, texts_after, texts_of}
use Rattle.proc_calls.proofs.Changes.{processes_as}

-- ---- joined

joined : (t : Processes ℕ) (slots : List ℕ) → join_names (map (text_at t) slots) ≡ texts_of t slots
joined t [] = refl
joined t (slot ∷ []) = sym (append-nil (text_at t slot))
joined t (slot ∷ next ∷ slots) = ap (λ rest. text_at t slot ++ 47 ∷ rest) (joined t (next ∷ slots))

-- ---- each text is short, so all fit

abbrev AreShort : List (List ℕ) → Type 0
AreShort names = AllByRecursion (λ name. length name ≤ 69) names

join-length : (names : List (List ℕ)) → AreShort names → length (join_names names) ≤ 70 * length names
join-length [] short = omega arith
join-length (x ∷ []) short = let one = short.0 in omega arith
join-length (x ∷ y ∷ names) short =
    let one = short.0 in
    let rest = join-length (y ∷ names) short.1 in
    let all = length-append x (47 ∷ join_names (y ∷ names)) in
    omega (arith, one, rest, all)

short-front : (these those : List (List ℕ)) → AreShort (these ++ those) → AreShort these
short-front [] those short = tt
short-front (x ∷ these) those short = (short.0, short-front these those short.1)

all-fit : (names : List (List ℕ)) → AreShort names → length names ≤ SLOTS → fits names ≡ true
all-fit names short few =
    let most = join-length names short in
    let room : length (join_names names) ≤ 4096 = omega (arith, most, few) in
    grind (arith, nat_tests, room)

most-all : (done rest : List (List ℕ)) → AreShort (done ++ rest) → length (done ++ rest) ≤ SLOTS → most_that_fit done rest ≡ done ++ rest
unfolding most_that_fit
most-all done [] short few = sym (append-nil done)
most-all done (next ∷ rest) short few =
    let same = append_assoc done (next ∷ []) rest in
    let shorter : AreShort ((done ++ next ∷ []) ++ rest) = subst AreShort (sym same) short in
    let fewer : length ((done ++ next ∷ []) ++ rest) ≤ SLOTS = subst (λ (xs : List (List ℕ)). length xs ≤ SLOTS) (sym same) few in
    let count = length-append (done ++ next ∷ []) rest in
    ap (λ b. cond b (most_that_fit (done ++ next ∷ []) rest) done)
    (all-fit (done ++ next ∷ []) (short-front (done ++ next ∷ []) rest shorter) (omega (arith, count, fewer)))
    ∙ most-all (done ++ next ∷ []) rest shorter fewer
    ∙ same

short-texts : (t : Processes ℕ) (slots : List ℕ) → AllByRecursion (λ slot. length (text_at t slot) ≤ 69) slots → AreShort (map (text_at t) slots)
short-texts t [] short = tt
short-texts t (slot ∷ slots) short = (short.0, short-texts t slots short.1)

text-all : (t : Processes ℕ) (slots : List ℕ) → All (λ slot. length (text_at t slot) ≤ 69) slots → length slots ≤ SLOTS
    → names_text (map (text_at t) slots) 0 ≡ texts_of t slots
unfolding names_text
text-all t slots short few =
    ap join_names
    (most-all [] (map (text_at t) slots) (short-texts t slots (recursion_from_All (λ slot. length (text_at t slot) ≤ 69) slots short))
    (rw (length-map slots (text_at t)) few))
    ∙ joined t slots

-- ---- the processes that are seen, by their slots

told-at : (t : Processes ℕ) (who : Process ℕ) (slot : ℕ) (more : List ℕ) (o : Option (Process ℕ))
    → map (process_text t) (filter_map (with_process t) more) ≡ map (text_at t) more → process_at t slot ≡ o
    → map (process_text t) (filter_map (with_process t) (cond (holds (is_seen who) o) (slot ∷ more) more))
    ≡ map (text_at t) (cond (holds (is_seen who) o) (slot ∷ more) more)
told-at t who slot more None rest is = rest
told-at t who slot more (Some p) rest is = by_seen (is_seen who p)
  where
    by_seen : (b : Bool) → map (process_text t) (filter_map (with_process t) (cond b (slot ∷ more) more)) ≡ map (text_at t) (cond b (slot ∷ more) more)
    by_seen true =
        ap (λ (o : Option (Process ℕ)). map (process_text t) (cons_option (option_map (λ q. (slot, q)) o) (filter_map (with_process t) more))) is
        ∙ ap (λ (texts : List (List ℕ)). process_text t (slot, p) ∷ texts) rest
        ∙ ap (λ (o : Option (Process ℕ)). text_of t slot o ∷ map (text_at t) more) (sym is)
    by_seen false = rest

told-all : (t : Processes ℕ) (who : Process ℕ) (slots : List ℕ)
    → map (process_text t) (filter_map (with_process t) (filter (λ slot. holds (is_seen who) (process_at t slot)) slots))
    ≡ map (text_at t) (filter (λ slot. holds (is_seen who) (process_at t slot)) slots)
told-all t who [] = refl
told-all t who (slot ∷ slots) =
    told-at t who slot (filter (λ s. holds (is_seen who) (process_at t s)) slots) (process_at t slot) (told-all t who slots) refl

map-twice : {A B C : Type 0} (f : A → B) (g : B → C) (h : A → C) → ((x : A) → g (f x) ≡ h x) → (xs : List A) → map g (map f xs) ≡ map h xs
map-twice f g h same [] = refl
map-twice f g h same (x ∷ xs) = ap₂ (λ y (ys : List _). y ∷ ys) (same x) (map-twice f g h same xs)

-- what ps(1) tells is the text of the slots that are seen
pub listed_as : (t : Tables) (old : Processes ℕ) (who : Process ℕ) (base slots : List ℕ) → t.processes ≡ old
    → slots ≡ filter (λ slot. holds (is_seen who) (process_at old slot)) base
    → filter_map (with_process old) slots ≡ processes_seen old who
    → All (λ slot. length (text_at old slot) ≤ 69) slots → length slots ≤ SLOTS
    → ps_text (view_of t) (seen_process t.nodes who) ≡ texts_of old slots
unfolding ps_text
listed_as t old who base slots processes are seen short few =
    let f = path_of t.nodes in
    ap (λ ps. names_text (map (process_text ps) (processes_seen ps (map_process f who))) 0)
    (processes_as t ∙ ap (λ (u : Processes ℕ). map_processes f u) processes)
    ∙ ap (λ entries. names_text (map (process_text (map_processes f old)) entries) 0) (processes_seen-map f old who)
    ∙ ap (λ names. names_text names 0)
    (map-twice (map_entry f) (process_text (map_processes f old)) (process_text old) (process_text-map f old) (processes_seen old who)
    ∙ ap (map (process_text old)) (sym seen ∙ ap (filter_map (with_process old)) are)
    ∙ told-all old who base
    ∙ ap (map (text_at old)) (sym are))
    ∙ text-all old slots short few

-- one slot more
pub told_more : (t : Processes ℕ) (slots : List ℕ) (i : ℕ) (out before : List ℕ) → i < length slots → before ≡ out ++ texts_after t (take i slots)
    → (before ++ codes "/") ++ text_at t (get_or slots i 0) ≡ out ++ texts_after t (take (i + 1) slots)
told_more t slots i out before within is =
    let slot = get_or slots i 0 in
    append_assoc before (codes "/") (text_at t slot)
    ∙ ap (λ xs. xs ++ (codes "/" ++ text_at t slot)) is
    ∙ append_assoc out (texts_after t (take i slots)) (codes "/" ++ text_at t slot)
    ∙ ap (λ xs. out ++ xs)
    (ap (λ xs. texts_after t (take i slots) ++ xs) (sym (append-nil (codes "/" ++ text_at t slot)))
    ∙ sym (flat_map-append (λ s. codes "/" ++ text_at t s) (take i slots) (slot ∷ []))
    ∙ ap (texts_after t) (sym (take_more slots i 0 within)))
