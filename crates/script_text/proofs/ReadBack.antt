-- The words that are printed are read as the values that they were printed of.
use Rattle.std.proofs.Common.{◌≡◌, ℕ, zero, suc, ◌*◌, ◌/◌, ◌%◌, ◌^◌, ◌<◌, ◌≤◌, Bool, true, false, cond, eqb, ltb, List, [], ◌∷◌, ◌++◌, length, take, get_or}
use Rattle.std.proofs.Common.{flat_map, Option, Some, None, Ok, refl, sym, ap, ◌∙◌, arith, rules}
use Rattle.std.specs.Prelude.{codes}
use Rattle.std.specs.Char.{digit_value}
use Rattle.std.specs.Fmt.{digits}
use Rattle.std.specs.List.{AllByRecursion}
use Rattle.std.specs.Result.{result_ok}
use Rattle.std.specs.Str.{bytes_eq}
use Rattle.std.proofs.lemmas.Bool.{le-ltb, ne_eqb, eqb-true, and_parts, false_from_ne_true, agree_below_at}
use Rattle.hex.specs.Hex.{IsBytes, lower_digits, encode_with, encode_lower, decode_of}
use Rattle.hex.proofs.HexLemmas.{decode_of-encode_lower, length-encode_with}
use Rattle.call_words.specs.declared.open.Access.{Access}
use Rattle.call_words.specs.declared.open.Access.TheVariants as access
use Rattle.call_words.specs.declared.open.OpenFlags.{OpenFlags}
use Rattle.std.specs.Fmt.{decimal}
use Rattle.std.specs.List.{list_all}
use Rattle.sys_types.specs.declared.sig.Sig.{Sig}
use Rattle.sys_types.specs.declared.sig.Sig.TheVariants as sig
use Rattle.sys_types.specs.Signals.{sig_word}
use Rattle.call_words.specs.declared.proc.WaitFlags.{WaitFlags}
use Rattle.call_words.specs.declared.signal.To.{To}
use Rattle.call_words.specs.declared.signal.To.TheVariants as to
use Rattle.call_words.specs.declared.signal.Action.{Action}
use Rattle.call_words.specs.declared.signal.Action.TheVariants as action
use Rattle.call_words.specs.declared.tty.When.{When}
use Rattle.call_words.specs.declared.tty.When.TheVariants as when
use Rattle.call_words.specs.declared.tty.WhichQueue.{WhichQueue}
use Rattle.call_words.specs.declared.tty.WhichQueue.TheVariants as queue
use Rattle.termios_core.proofs.GrammarLemmas.{termios_of-termios_text}
use Rattle.script_text.specs.Proc.{wait_flags_of, wait_flags_word}
use Rattle.script_text.specs.Signal.{signal_of, action_of, target_of, action_word, target_word}
use Rattle.script_text.specs.Tty.{when_of, queue_of, when_word, queue_word}
use Rattle.script_text.proofs.Digits.{digit_range}
use Rattle.acl_core.proofs.ListTextLemmas.{read_again}
use Rattle.label_core.proofs.TextLemmas.{element_of-element_text, subject_of-subject_text}
use Rattle.call_words.specs.declared.attr.WhichList.{WhichList}
use Rattle.call_words.specs.declared.attr.WhichList.TheVariants as which
use Rattle.script_text.specs.Rights.{which_of, which_word}
use Rattle.script_text.specs.Words.{is_digit, number_below, bytes_of_word, hex_word}
use Rattle.script_text.specs.Paths.{is_plain, pair_value, byte_text, path_of, path_word}
use Rattle.script_text.specs.Spelling.{plain, escape, IsSpelled, by_parts}
use Rattle.script_text.specs.Values.{line_of, mode_of, access_of, flags_of, line_word, mode_word, access_word, flags_word}
use Rattle.script_text.specs.Grammar.{Field, Fits, Says, word_of, IsByte, name, slot, line, path, access, flags, open_mode, mode, fd, max, take_max, from}
use Rattle.script_text.specs.Grammar.{bytes, id, groups, which, entries, element, subject, FitsTarget, pid, status, wait_flags, note, signal, target, action}
use Rattle.script_text.specs.Grammar.{when, queue, termios}
use Rattle.script_text.proofs.ChoiceLemmas.{same_text}
use Rattle.script_text.proofs.SpellingLemmas.{written_is_read}
use Rattle.script_text.proofs.NumberBack.{digits_of_number, number_back}
use Rattle.script_text.proofs.GroupsBack.{groups_back}

line_back : (n : ℕ) → n < 8 → line_of (line_word n) ≡ Some n
line_back n h = number_back 8 n h (omega arith)

-- whether it is this number
is_some_number : Option ℕ → ℕ → Bool
is_some_number None n = false
is_some_number (Some m) n = eqb m n

some_number : (o : Option ℕ) (n : ℕ) → is_some_number o n ≡ true → o ≡ Some n
unfolding is_some_number
some_number None n h = absurd cc
some_number (Some m) n h = ap (λ x. Some x) (eqb-true m n h)

-- each of the 512 modes
mode_back : (m : ℕ) → m < 8 ^ 3 → mode_of (mode_word m) ≡ Some m
unfolding number_below digits is_some_number
mode_back m h = some_number (mode_of (mode_word m)) m (agree_below_at (λ m. is_some_number (mode_of (mode_word m)) m) (λ m. true) 512 m refl h)

access_back : (a : Access) → access_of (access_word a) ≡ Some a
access_back access.Read = refl
access_back access.Write = refl
access_back access.ReadWrite = refl

-- a fact at both booleans
abbrev AtBoth : (Bool → Type 0) → Type 0
AtBoth P = P true × P false

at : (P : Bool → Type 0) → AtBoth P → (b : Bool) → P b
at P h true = h.0
at P h false = h.1

abbrev Back : Bool → Bool → Bool → Bool → Bool → Bool → Type 0
Back c x t a n e =
    let f : OpenFlags = record { create = c; exclusive = x; truncate = t; append = a; nonblock = n; on_exec = e } in
    flags_of (flags_word f) ≡ Some f

-- each of the 64 sets of flags
all_back : AtBoth (λ c. AtBoth (λ x. AtBoth (λ t. AtBoth (λ a. AtBoth (λ n. AtBoth (λ e. Back c x t a n e))))))
unfolding flags_of flags_word
all_back = search rules

flags_back : (f : OpenFlags) → flags_of (flags_word f) ≡ Some f
flags_back f =
    at (λ e. Back f.create f.exclusive f.truncate f.append f.nonblock e)
    (at (λ n. AtBoth (λ e. Back f.create f.exclusive f.truncate f.append n e))
    (at (λ a. AtBoth (λ n. AtBoth (λ e. Back f.create f.exclusive f.truncate a n e)))
    (at (λ t. AtBoth (λ a. AtBoth (λ n. AtBoth (λ e. Back f.create f.exclusive t a n e))))
    (at (λ x. AtBoth (λ t. AtBoth (λ a. AtBoth (λ n. AtBoth (λ e. Back f.create x t a n e)))))
    (at (λ c. AtBoth (λ x. AtBoth (λ t. AtBoth (λ a. AtBoth (λ n. AtBoth (λ e. Back c x t a n e)))))) all_back f.create)
    f.exclusive) f.truncate) f.append) f.nonblock) f.on_exec

which_back : (l : WhichList) → which_of (which_word l) ≡ Some l
which_back which.Access = refl
which_back which.Default = refl

-- bytes, as the crate hex says it
all_bytes : (bs : List ℕ) → AllByRecursion IsByte bs → IsBytes bs
all_bytes [] h = λ i. omega arith
all_bytes (b ∷ bs) h = λ i. elim i as (λ i. get_or (b ∷ bs) i 0 < 256) [ zero ↦ h.0 | suc i ↦ all_bytes bs h.1 i ]

-- a text of pairs of digits
pairs_back : (text bs : List ℕ) → length text ≡ 2 * length bs → 0 < length bs → length bs ≤ 512 → decode_of text ≡ Ok bs → bytes_of_word text ≡ Some bs
unfolding bytes_of_word
pairs_back text bs twice some most h =
    let no_dash : bytes_eq text (codes "-") ≡ false =
    false_from_ne_true _ (λ e. let one : length text ≡ 1 = ap length (same_text text (codes "-") e) in absurd (omega arith)) in
    let not_empty : eqb (length text) 0 ≡ false = ne_eqb (length text) 0 (λ e. absurd (omega (arith, e))) in
    let short : ltb 1024 (length text) ≡ false = le-ltb 1024 (length text) (omega arith) in
    rw (no_dash, not_empty, short, h) refl

hex_pairs : (b : ℕ) (bs : List ℕ) → hex_word (b ∷ bs) ≡ encode_lower (b ∷ bs)
unfolding hex_word
hex_pairs b bs = rw (ne_eqb (length (b ∷ bs)) 0 (omega arith)) refl

bytes_back : (bs : List ℕ) → length bs ≤ 512 → AllByRecursion IsByte bs → bytes_of_word (hex_word bs) ≡ Some bs
unfolding bytes_of_word hex_word
bytes_back [] most h = refl
bytes_back (b ∷ bs) most h =
    ap bytes_of_word (hex_pairs b bs)
    ∙ pairs_back (encode_lower (b ∷ bs)) (b ∷ bs) (length-encode_with lower_digits (b ∷ bs)) (omega arith) most
    (decode_of-encode_lower (b ∷ bs) (all_bytes (b ∷ bs) h))

-- each of the sixteen digits
digit_back : (k : ℕ) → k < 16 → digit_value (get_or lower_digits k 0) ≡ k
digit_back k h = eqb-true _ k (agree_below_at (λ k. eqb (digit_value (get_or lower_digits k 0)) k) (λ k. true) 16 k refl h)

-- what is printed of bytes is a spelling of them
printed_spells : (bs : List ℕ) → AllByRecursion IsByte bs → IsSpelled (flat_map byte_text bs) bs
unfolding encode_with
printed_spells [] h = record { parts = []; valid = tt; spelling = refl; meaning = refl }
printed_spells (b ∷ bs) h =
    let rest = printed_spells bs h.1 in
    let high = get_or lower_digits (b / 16) 0 in
    let low = get_or lower_digits (b % 16) 0 in
    let small : b < 256 = h.0 in
    let first : digit_value high ≡ b / 16 = digit_back (b / 16) (omega arith) in
    let second : digit_value low ≡ b % 16 = digit_back (b % 16) (omega arith) in
    let value : pair_value high low ≡ b = omega (arith, first, second) in
    elim (is_plain b) as (λ t. is_plain b ≡ t → IsSpelled (cond t (b ∷ []) (37 ∷ encode_lower (b ∷ [])) ++ flat_map byte_text bs) (b ∷ bs)) [
      | true ↦ λ e. record {
        parts = plain b ∷ rest.parts;
        valid = (e, rest.valid);
        spelling = ap (λ t. b ∷ t) rest.spelling;
        meaning = ap (λ t. b ∷ t) rest.meaning;
      }
      | false ↦ λ e. record {
        parts = escape high low ∷ rest.parts;
        valid = ((omega (arith, first), omega (arith, second), ap is_plain value ∙ e), rest.valid);
        spelling = ap (λ (t : List ℕ). 37 ∷ high ∷ low ∷ t) rest.spelling;
        meaning = ap (λ c. c ∷ bs) (sym value) ∙ ap (λ (t : List ℕ). pair_value high low ∷ t) rest.meaning;
      }
    ] refl

some_printed : (b : ℕ) (bs : List ℕ) → path_word (b ∷ bs) ≡ flat_map byte_text (b ∷ bs)
unfolding path_word
some_printed b bs = rw (ne_eqb (length (b ∷ bs)) 0 (omega arith)) refl

path_back : (p : List ℕ) → length p ≤ 1024 → AllByRecursion IsByte p → path_of (path_word p) ≡ Some p
unfolding path_of path_word
path_back [] most h = refl
path_back (b ∷ bs) most h =
    ap path_of (some_printed b bs)
    ∙ written_is_read (flat_map byte_text (b ∷ bs)) (b ∷ bs) (by_parts (omega arith) most (printed_spells (b ∷ bs) h))

-- each of the four sets of flags
all_waits_back : AtBoth (λ n. AtBoth (λ u. wait_flags_of (wait_flags_word (record { no_hang = n; untraced = u }))
    ≡ Some (record { no_hang = n; untraced = u })))
all_waits_back = search rules

wait_flags_back : (f : WaitFlags) → wait_flags_of (wait_flags_word f) ≡ Some f
wait_flags_back f =
    at (λ u. wait_flags_of (wait_flags_word (record { no_hang = f.no_hang; untraced = u })) ≡ Some (record { no_hang = f.no_hang; untraced = u }))
    (at (λ n. AtBoth (λ u. wait_flags_of (wait_flags_word (record { no_hang = n; untraced = u })) ≡ Some (record { no_hang = n; untraced = u })))
    all_waits_back f.no_hang) f.untraced

signal_back : (s : Sig) → signal_of (sig_word s) ≡ Some s
unfolding signal_of
signal_back sig.HUP = refl
signal_back sig.INT = refl
signal_back sig.QUIT = refl
signal_back sig.KILL = refl
signal_back sig.PIPE = refl
signal_back sig.TERM = refl
signal_back sig.STOP = refl
signal_back sig.TSTP = refl
signal_back sig.CONT = refl
signal_back sig.CHLD = refl
signal_back sig.TTIN = refl
signal_back sig.TTOU = refl
signal_back sig.USR1 = refl
signal_back sig.USR2 = refl

action_back : (a : Action) → action_of (action_word a) ≡ Some a
action_back action.Normal = refl
action_back action.Ignore = refl
action_back action.Catch = refl

when_back : (w : When) → when_of (when_word w) ≡ Some w
when_back when.Now = refl
when_back when.Flush = refl

queue_back : (q : WhichQueue) → queue_of (queue_word q) ≡ Some q
queue_back queue.In = refl
queue_back queue.Out = refl
queue_back queue.Both = refl

-- a number begins with no g
no_group : (ds : List ℕ) → list_all (is_digit 10) ds ≡ true → bytes_eq (take 1 ds) (codes "g") ≡ false
no_group [] h = refl
no_group (d ∷ ds) h =
    let range = digit_range 10 d (and_parts (is_digit 10 d) (list_all (is_digit 10) ds) h).0 in
    false_from_ne_true _ (λ e. let same : d ∷ [] ≡ codes "g" = same_text (d ∷ []) (codes "g") e in let one : d ≡ 103 = cc in omega (arith, one, range))

target_back : (t : To) → FitsTarget t → target_of (target_word t) ≡ Some t
target_back (to.Pid n) h =
    rw (no_group (decimal n) (digits_of_number n (omega arith)), number_back (2 ^ 32) n h (omega arith)) refl
target_back (to.Group n) h = rw (number_back (2 ^ 32) n h (omega arith)) refl

pub word_back : (f : Field) → Fits f → Says f (word_of f)
word_back (name n) h = refl
word_back (slot n) h = number_back 32 n h (omega arith)
word_back (line n) h = line_back n h
word_back (path p) h = path_back p h.0 h.1
word_back (access a) h = access_back a
word_back (flags f) h = flags_back f
word_back (open_mode m) h = mode_back m h
word_back (mode m) h = mode_back m h
word_back (fd n) h = number_back (2 ^ 8) n h (omega arith)
word_back (max n) h = number_back (2 ^ 16) n h (omega arith)
word_back (take_max n) h = number_back 513 n (omega arith) (omega arith)
word_back (from n) h = number_back (2 ^ 16) n h (omega arith)
word_back (bytes bs) h = bytes_back bs h.0 h.1
word_back (id n) h = number_back (2 ^ 32) n h (omega arith)
word_back (groups ns) h = groups_back ns h.0 h.1
word_back (which l) h = which_back l
word_back (entries es) h = ap result_ok (read_again es h)
word_back (element e) h = ap result_ok (element_of-element_text e h)
word_back (subject s) h = ap result_ok (subject_of-subject_text s h)
word_back (pid n) h = number_back (2 ^ 32) n h (omega arith)
word_back (status n) h = number_back (2 ^ 8) n h (omega arith)
word_back (wait_flags f) h = wait_flags_back f
word_back (note bs) h = bytes_back bs h.0 h.1
word_back (signal s) h = signal_back s
word_back (target t) h = target_back t h
word_back (action a) h = action_back a
word_back (when a) h = when_back a
word_back (queue q) h = queue_back q
word_back (termios t) h = termios_of-termios_text t h
