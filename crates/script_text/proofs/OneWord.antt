-- What is printed of a field is one word: no byte of it is a blank.
use Rattle.std.proofs.Common.{◌≡◌, ℕ, zero, suc, ◌/◌, ◌%◌, ◌^◌, ◌<◌, ◌≤◌, Bool, true, false, cond, eqb, leb, List, [], ◌∷◌, ◌++◌, length, map, get_or}
use Rattle.std.proofs.Common.{flat_map, All, slice_index_or, refl, arith}
use Rattle.std.specs.Prelude.{codes, ◌&&◌, ◌||◌}
use Rattle.std.specs.Fmt.{decimal, digits}
use Rattle.std.specs.List.{AllByRecursion, list_all, join_with_byte}
use Rattle.std.specs.Str.{byte}
use Rattle.std.proofs.lemmas.Bool.{and_parts, leb-true, ne_eqb, agree_below_at}
use Rattle.hex.specs.Hex.{lower_digits, encode_with, encode_lower}
use Rattle.label_core.specs.declared.element.Element.{Element}
use Rattle.label_core.specs.declared.element.Element.TheVariants.{Low, Equal, High, Grade}
use Rattle.label_core.specs.CompSet.{RisesFrom}
use Rattle.label_core.specs.Element.{IsElement, is_same}
use Rattle.label_core.specs.Subject.{Parts, IsSubject}
use Rattle.label_core.specs.Text.{set_text, body_text, element_text, subject_text}
use Rattle.acl_core.specs.declared.entry.Entry.{Entry}
use Rattle.acl_core.specs.Text.{list_text, HasText}
use Rattle.acl_core.proofs.WordLemmas.{list_is_word}
use Rattle.termios_core.specs.declared.termios.Termios.{Termios}
use Rattle.termios_core.specs.Termios.{HasBytes}
use Rattle.termios_core.specs.Text.{termios_text, IsGraphic}
use Rattle.termios_core.proofs.PrintedTextLemmas.{IsWord-termios_text}
use Rattle.sys_types.specs.declared.sig.Sig.{Sig}
use Rattle.sys_types.specs.declared.sig.Sig.TheVariants as sig
use Rattle.sys_types.specs.Signals.{sig_word}
use Rattle.call_words.specs.declared.open.Access.{Access}
use Rattle.call_words.specs.declared.open.Access.TheVariants as access
use Rattle.call_words.specs.declared.open.OpenFlags.{OpenFlags}
use Rattle.call_words.specs.declared.attr.WhichList.{WhichList}
use Rattle.call_words.specs.declared.attr.WhichList.TheVariants as which
use Rattle.call_words.specs.declared.signal.To.{To}
use Rattle.call_words.specs.declared.signal.To.TheVariants as to
use Rattle.call_words.specs.declared.signal.Action.{Action}
use Rattle.call_words.specs.declared.signal.Action.TheVariants as action
use Rattle.call_words.specs.declared.tty.When.{When}
use Rattle.call_words.specs.declared.tty.When.TheVariants as when
use Rattle.call_words.specs.declared.tty.WhichQueue.{WhichQueue}
use Rattle.call_words.specs.declared.tty.WhichQueue.TheVariants as queue
use Rattle.call_words.specs.Groups.{groups_word}
use Rattle.script_text.specs.Words.{is_digit, hex_word}
use Rattle.script_text.specs.Paths.{is_plain, byte_text, path_word}
use Rattle.script_text.specs.Values.{mode_word, access_word, letter_if, letters_of, flags_word}
use Rattle.script_text.specs.Rights.{which_word}
use Rattle.script_text.specs.Proc.{wait_flags_word}
use Rattle.script_text.specs.Signal.{action_word, target_word}
use Rattle.script_text.specs.Tty.{when_word, queue_word}
use Rattle.script_text.specs.Grammar.{Field, Fits, FitsTarget, word_of, is_letter, IsByte, IsId, name, slot, line, path, access, flags, open_mode, mode, fd}
use Rattle.script_text.specs.Grammar.{max, take_max, from, bytes, id, groups, which, entries, element, subject, pid, status, wait_flags, note, signal, target}
use Rattle.script_text.specs.Grammar.{action, when, queue, termios}
use Rattle.script_text.proofs.Digits.{digit_range}
use Rattle.script_text.proofs.NumberBack.{digits_of_number}

-- each byte is above the blank
abbrev pub IsSolid : List ℕ → Type 0
IsSolid w = AllByRecursion (λ b. 33 ≤ b) w

solid_append : (xs ys : List ℕ) → IsSolid xs → IsSolid ys → IsSolid (xs ++ ys)
solid_append [] ys first second = second
solid_append (x ∷ xs) ys first second = (first.0, solid_append xs ys first.1 second)

-- a text that passes a test is such a text
solid_codes : (bs : List ℕ) → list_all (λ b. leb 33 b) bs ≡ true → IsSolid bs
solid_codes [] h = tt
solid_codes (b ∷ bs) h =
    let parts = and_parts _ _ h in
    (leb-true 33 b parts.0, solid_codes bs parts.1)

-- where a test implies it
solid_where : (test : ℕ → Bool) → ((b : ℕ) → test b ≡ true → 33 ≤ b) → (bs : List ℕ) → list_all test bs ≡ true → IsSolid bs
solid_where test implies [] h = tt
solid_where test implies (b ∷ bs) h =
    let parts = and_parts (test b) (list_all test bs) h in
    (implies b parts.0, solid_where test implies bs parts.1)

solid_cond : (b : Bool) (xs ys : List ℕ) → IsSolid xs → IsSolid ys → IsSolid (cond b xs ys)
solid_cond true xs ys first second = first
solid_cond false xs ys first second = second

solid_decimal : (n : ℕ) → n < 2 ^ 64 → IsSolid (decimal n)
solid_decimal n h = solid_where (is_digit 10) (λ b is. omega (arith, digit_range 10 b is)) (decimal n) (digits_of_number n h)

-- a letter or a digit
letter_is_solid : (b : ℕ) → is_letter b ≡ true → 33 ≤ b
letter_is_solid b h = elim (leb 97 b) as (λ t. leb 97 b ≡ t → ((t && leb b 122) || (leb 48 b && leb b 57)) ≡ true → 33 ≤ b) [
  | true ↦ λ e f. omega (arith, leb-true 97 b e)
  | false ↦ λ e f. omega (arith, leb-true 48 b (and_parts (leb 48 b) (leb b 57) f).0)
] refl h

-- each of the sixteen digits
hex_digit_is_solid : (k : ℕ) → k < 16 → 33 ≤ get_or lower_digits k 0
hex_digit_is_solid k h = leb-true 33 _ (agree_below_at (λ k. leb 33 (get_or lower_digits k 0)) (λ k. true) 16 k refl h)

solid_pairs : (bs : List ℕ) → AllByRecursion IsByte bs → IsSolid (encode_lower bs)
unfolding encode_with
solid_pairs [] h = tt
solid_pairs (b ∷ bs) h =
    let small : b < 256 = h.0 in
    (hex_digit_is_solid (b / 16) (omega arith), (hex_digit_is_solid (b % 16) (omega arith), solid_pairs bs h.1))

solid_hex : (bs : List ℕ) → AllByRecursion IsByte bs → IsSolid (hex_word bs)
unfolding hex_word
solid_hex bs h = solid_cond (eqb (length bs) 0) (codes "-") (encode_lower bs) (solid_codes (codes "-") refl) (solid_pairs bs h)

solid_escaped : (b : ℕ) → b < 256 → IsSolid (byte_text b)
solid_escaped b h = elim (is_plain b) as (λ t. is_plain b ≡ t → IsSolid (cond t (b ∷ []) (37 ∷ encode_lower (b ∷ [])))) [
  | true ↦ λ e. (leb-true 33 b (and_parts (leb 33 b) (leb b 126) (and_parts (leb 33 b && leb b 126) _ e).0).0, tt)
  | false ↦ λ e. (omega arith, solid_pairs (b ∷ []) (h, tt))
] refl

solid_escapes : (bs : List ℕ) → AllByRecursion IsByte bs → IsSolid (flat_map byte_text bs)
solid_escapes [] h = tt
solid_escapes (b ∷ bs) h = solid_append (byte_text b) (flat_map byte_text bs) (solid_escaped b h.0) (solid_escapes bs h.1)

solid_path : (bs : List ℕ) → AllByRecursion IsByte bs → IsSolid (path_word bs)
unfolding path_word
solid_path bs h = solid_cond (eqb (length bs) 0) (codes "%") (flat_map byte_text bs) (solid_codes (codes "%") refl) (solid_escapes bs h)

-- each of the 512 modes
solid_mode : (m : ℕ) → m < 8 ^ 3 → IsSolid (mode_word m)
unfolding digits
solid_mode m h = solid_codes (mode_word m) (agree_below_at (λ m. list_all (λ b. leb 33 b) (mode_word m)) (λ m. true) 512 m refl h)

solid_access : (a : Access) → IsSolid (access_word a)
solid_access access.Read = solid_codes (codes "r") refl
solid_access access.Write = solid_codes (codes "w") refl
solid_access access.ReadWrite = solid_codes (codes "rw") refl

solid_letter : (on : Bool) (b : ℕ) → 33 ≤ b → IsSolid (letter_if on b)
solid_letter true b h = (h, tt)
solid_letter false b h = tt

solid_flags : (f : OpenFlags) → IsSolid (flags_word f)
unfolding flags_word
solid_flags f =
    solid_cond (eqb (length (letters_of f)) 0) (codes "-") (letters_of f) (solid_codes (codes "-") refl)
    (solid_append _ (letter_if f.on_exec (byte "e"))
    (solid_append _ (letter_if f.nonblock (byte "n"))
    (solid_append _ (letter_if f.append (byte "a"))
    (solid_append _ (letter_if f.truncate (byte "t"))
    (solid_append (letter_if f.create (byte "c")) (letter_if f.exclusive (byte "x")) (solid_letter f.create _ (omega arith))
    (solid_letter f.exclusive _ (omega arith)))
    (solid_letter f.truncate _ (omega arith)))
    (solid_letter f.append _ (omega arith)))
    (solid_letter f.nonblock _ (omega arith)))
    (solid_letter f.on_exec _ (omega arith)))

solid_joined : (ns : List ℕ) (n : ℕ) → AllByRecursion IsId (n ∷ ns) → IsSolid (join_with_byte 43 (map decimal (n ∷ ns)))
solid_joined [] n h = solid_decimal n (omega (arith, h.0))
solid_joined (m ∷ ns) n h =
    solid_append (decimal n) (43 ∷ join_with_byte 43 (map decimal (m ∷ ns))) (solid_decimal n (omega (arith, h.0))) (omega arith, solid_joined ns m h.1)

solid_groups : (ns : List ℕ) → AllByRecursion IsId ns → IsSolid (groups_word ns)
unfolding groups_word
solid_groups [] h = solid_codes (codes "-") refl
solid_groups (n ∷ ns) h = rw (ne_eqb (length (n ∷ ns)) 0 (omega arith)) (solid_joined ns n h)

solid_which : (l : WhichList) → IsSolid (which_word l)
solid_which which.Access = solid_codes (codes "access") refl
solid_which which.Default = solid_codes (codes "default") refl

-- a graphic text
solid_graphic : (bs : List ℕ) → AllByRecursion (λ b. (33 ≤ b) × (b ≤ 126)) bs → IsSolid bs
solid_graphic [] h = tt
solid_graphic (b ∷ bs) h = (h.0.0, solid_graphic bs h.1)

solid_entries : (es : List Entry) → HasText es → IsSolid (list_text es)
solid_entries es h = solid_graphic (list_text es) (list_is_word es h).graphic

solid_settings : (bs : List ℕ) → AllByRecursion IsGraphic bs → IsSolid bs
solid_settings [] h = tt
solid_settings (b ∷ bs) h = (omega (arith, h.0.0), solid_settings bs h.1)

solid_termios : (t : Termios) → HasBytes t → IsSolid (termios_text t)
solid_termios t h = solid_settings (termios_text t) (IsWord-termios_text t h).graphic

-- compartments
solid_more : (low : ℕ) (ns : List ℕ) → RisesFrom low ns → IsSolid (flat_map (λ m. codes "+" ++ decimal m) ns)
solid_more low [] h = tt
solid_more low (n ∷ ns) h =
    solid_append (codes "+" ++ decimal n) (flat_map (λ m. codes "+" ++ decimal m) ns)
    (omega arith, solid_decimal n (omega (arith, h.1))) (solid_more n ns h.2)

solid_set : (ns : List ℕ) → RisesFrom 0 ns → IsSolid (set_text ns)
solid_set [] h = tt
solid_set (n ∷ ns) h =
    solid_append (codes ":" ++ decimal n) (flat_map (λ m. codes "+" ++ decimal m) ns) (omega arith, solid_decimal n (omega (arith, h.1)))
    (solid_more n ns h.2)

solid_body : (e : Element) → IsElement e → IsSolid (body_text e)
solid_body Low h = solid_codes (codes "low") refl
solid_body Equal h = solid_codes (codes "equal") refl
solid_body High h = solid_codes (codes "high") refl
solid_body (Grade grade set) h = solid_append (decimal grade) (set_text set) (solid_decimal grade (omega (arith, h.grade))) (solid_set set h.set)

solid_element : (e : Element) → IsElement e → IsSolid (element_text e)
unfolding element_text
solid_element e h = solid_append (codes "mls/") (body_text e) (solid_codes (codes "mls/") refl) (solid_body e h)

solid_range : (low high : Element) → IsElement low → IsElement high → IsSolid (codes "(" ++ body_text low ++ codes "-" ++ body_text high ++ codes ")")
solid_range low high is also =
    solid_append (codes "(" ++ body_text low ++ codes "-" ++ body_text high) (codes ")")
    (solid_append (codes "(" ++ body_text low ++ codes "-") (body_text high)
    (solid_append (codes "(" ++ body_text low) (codes "-")
    (solid_append (codes "(") (body_text low) (solid_codes (codes "(") refl) (solid_body low is))
    (solid_codes (codes "-") refl))
    (solid_body high also))
    (solid_codes (codes ")") refl)

solid_subject : (s : Parts) → IsSubject s → IsSolid (subject_text s)
unfolding subject_text
solid_subject s h =
    solid_append (element_text s.active) _ (solid_element s.active h.active)
    (solid_cond (is_same s.low s.active && is_same s.high s.active) [] _ tt (solid_range s.low s.high h.low h.high))

solid_waits : (n u : Bool) → IsSolid (wait_flags_word (record { no_hang = n; untraced = u }))
solid_waits true true = solid_codes (codes "nu") refl
solid_waits true false = solid_codes (codes "n") refl
solid_waits false true = solid_codes (codes "u") refl
solid_waits false false = solid_codes (codes "-") refl

solid_signal : (s : Sig) → IsSolid (sig_word s)
solid_signal sig.HUP = solid_codes (codes "HUP") refl
solid_signal sig.INT = solid_codes (codes "INT") refl
solid_signal sig.QUIT = solid_codes (codes "QUIT") refl
solid_signal sig.KILL = solid_codes (codes "KILL") refl
solid_signal sig.PIPE = solid_codes (codes "PIPE") refl
solid_signal sig.TERM = solid_codes (codes "TERM") refl
solid_signal sig.STOP = solid_codes (codes "STOP") refl
solid_signal sig.TSTP = solid_codes (codes "TSTP") refl
solid_signal sig.CONT = solid_codes (codes "CONT") refl
solid_signal sig.CHLD = solid_codes (codes "CHLD") refl
solid_signal sig.TTIN = solid_codes (codes "TTIN") refl
solid_signal sig.TTOU = solid_codes (codes "TTOU") refl
solid_signal sig.USR1 = solid_codes (codes "USR1") refl
solid_signal sig.USR2 = solid_codes (codes "USR2") refl

solid_target : (t : To) → FitsTarget t → IsSolid (target_word t)
solid_target (to.Pid n) h = solid_decimal n (omega arith)
solid_target (to.Group n) h = solid_append (codes "g") (decimal n) (solid_codes (codes "g") refl) (solid_decimal n (omega arith))

solid_action : (a : Action) → IsSolid (action_word a)
solid_action action.Normal = solid_codes (codes "default") refl
solid_action action.Ignore = solid_codes (codes "ignore") refl
solid_action action.Catch = solid_codes (codes "catch") refl

solid_when : (w : When) → IsSolid (when_word w)
solid_when when.Now = solid_codes (codes "now") refl
solid_when when.Flush = solid_codes (codes "flush") refl

solid_queue : (q : WhichQueue) → IsSolid (queue_word q)
solid_queue queue.In = solid_codes (codes "in") refl
solid_queue queue.Out = solid_codes (codes "out") refl
solid_queue queue.Both = solid_codes (codes "both") refl

pub word_is_solid : (f : Field) → Fits f → IsSolid (word_of f)
word_is_solid (name n) h = solid_where is_letter letter_is_solid n h
word_is_solid (slot n) h = solid_decimal n (omega arith)
word_is_solid (line n) h = solid_append (codes "tty") (decimal n) (solid_codes (codes "tty") refl) (solid_decimal n (omega arith))
word_is_solid (path p) h = solid_path p h.1
word_is_solid (access a) h = solid_access a
word_is_solid (flags f) h = solid_flags f
word_is_solid (open_mode m) h = solid_mode m h
word_is_solid (mode m) h = solid_mode m h
word_is_solid (fd n) h = solid_decimal n (omega arith)
word_is_solid (max n) h = solid_decimal n (omega arith)
word_is_solid (take_max n) h = solid_decimal n (omega arith)
word_is_solid (from n) h = solid_decimal n (omega arith)
word_is_solid (bytes bs) h = solid_hex bs h.1
word_is_solid (id n) h = solid_decimal n (omega arith)
word_is_solid (groups ns) h = solid_groups ns h.1
word_is_solid (which l) h = solid_which l
word_is_solid (entries es) h = solid_entries es h
word_is_solid (element e) h = solid_element e h
word_is_solid (subject s) h = solid_subject s h
word_is_solid (pid n) h = solid_decimal n (omega arith)
word_is_solid (status n) h = solid_decimal n (omega arith)
word_is_solid (wait_flags f) h = solid_waits f.no_hang f.untraced
word_is_solid (note bs) h = solid_hex bs h.1
word_is_solid (signal s) h = solid_signal s
word_is_solid (target t) h = solid_target t h
word_is_solid (action a) h = solid_action a
word_is_solid (when a) h = solid_when a
word_is_solid (queue q) h = solid_queue q
word_is_solid (termios t) h = solid_termios t h

-- no byte of such a text is a blank
pub no_blank : (w : List ℕ) → IsSolid w → All (λ b. eqb b 32 ≡ false) w
no_blank [] h = λ k d within. absurd (omega arith)
no_blank (b ∷ w) h = λ k d within. elim k as (λ k. k < length (b ∷ w) → eqb (slice_index_or (b ∷ w) k d) 32 ≡ false) [
  | zero ↦ λ within. ne_eqb b 32 (λ e. omega (arith, e, h.0))
  | suc k ↦ λ within. no_blank w h.1 k d (omega arith)
] within
