-- What the lines of a text give, one at a time.
use Rattle.std.proofs.Common.{◌≡◌, ◌≢◌, ℕ, ◌+◌, ◌<◌, true, false, not, List, [], ◌∷◌, ◌++◌, length, Some, None, Option, Ok, Err, Result, refl, sym, ap, ◌∙◌, arith, length-append, append-nil, ne_eqb, eq-eqb}
use Rattle.std.specs.Prelude.{OnOk}
use Rattle.std.specs.List.{slice_split, onto_first}
use Rattle.std.proofs.lemmas.List.Splits.{slice_split-cons_no}
use Rattle.std.proofs.lemmas.Bool.{and_parts, lt-leb}
use Rattle.call_words.specs.declared.event.Event.{Event}
use Rattle.system_model.specs.State.{View}
use Rattle.script_model.specs.Seen.{out_seen}
use Rattle.script_model.specs.Script.{Output, text_end}
use Rattle.script_model.proofs.SeenRuns.{out_seen-end}
use Rattle.user_db.specs.Lines.{is_newline, without_empty_last, lines}
use Rattle.script_model.specs.Reading.{reads_from}
use Rattle.script_text.specs.Reading.{events_of_line}
use Rattle.tty_host.specs.declared.run.Stop.{Stop}
use Rattle.tty_host.specs.declared.run.Run.{Run}
use Rattle.tty_host.specs.Come.{to_come, seen_so_far, events_left}
use Rattle.tty_host.specs.Outputs.{Goes, behind, status_alone}
use Rattle.tty_host.specs.OneLine.{is_one_line}
use Rattle.tty_host.proofs.OutputLemmas.{goes-stop}
use Rattle.tty_host.proofs.OneEvent.{script_of}

-- the parts of a text: the first, and the others
record Parts (text : List ℕ) : Type 0 where
  head : List ℕ
  others : List (List ℕ)
  are : slice_split is_newline text ≡ head ∷ others

parts : (text : List ℕ) → Parts text
parts [] = record { head = []; others = []; are = refl }
parts (b ∷ bs) =
    let more = parts bs in
    elim (is_newline b) as (λ n. is_newline b ≡ n → Parts (b ∷ bs)) [
      | true ↦ λ h. record { head = []; others = slice_split is_newline bs; are = rw h refl }
      | false ↦ λ h. record { head = b ∷ more.head; others = more.others; are = rw (h, more.are) refl }
    ] refl

-- bytes without a newline join the first part of what follows them
split-one_line : (line text : List ℕ) (m : List ℕ) (ms : List (List ℕ)) → is_one_line line ≡ true → slice_split is_newline text ≡ m ∷ ms
    → slice_split is_newline (line ++ text) ≡ (line ++ m) ∷ ms
split-one_line [] text m ms one h = h
split-one_line (b ∷ bs) text m ms one h =
    let both = and_parts (not (is_newline b)) (is_one_line bs) one in
    let no : is_newline b ≡ false = elim (is_newline b) as (λ n. not n ≡ true → n ≡ false) [ true ↦ λ e. cc | false ↦ λ e. refl ] both.0 in
    slice_split-cons_no is_newline b (bs ++ text) no ∙ ap (onto_first b) (split-one_line bs text m ms both.1 h)

-- behind the first of several parts stand the lines of the others
others-lines : (l text : List ℕ) → without_empty_last (l ∷ slice_split is_newline text) ≡ l ∷ without_empty_last (slice_split is_newline text)
others-lines l text = let p = parts text in rw p.are refl

-- a newline ends the line so far
pub lines-newline : (line text : List ℕ) (b : ℕ) → is_one_line line ≡ true → b ≡ 10 → lines (line ++ b ∷ text) ≡ line ∷ lines text
unfolding lines
lines-newline line text b one h =
    let cut : slice_split is_newline (b ∷ text) ≡ [] ∷ slice_split is_newline text = rw h refl in
    ap without_empty_last (split-one_line line (b ∷ text) [] (slice_split is_newline text) one cut)
    ∙ others-lines (line ++ []) text ∙ ap (λ l. l ∷ without_empty_last (slice_split is_newline text)) (append-nil line)

lines-alone : (line : List ℕ) → is_one_line line ≡ true → lines (line ++ []) ≡ without_empty_last ((line ++ []) ∷ [])
unfolding lines
lines-alone line one = ap without_empty_last (split-one_line line [] [] [] one refl)

-- at the end of the text the line so far is its last, if it has a byte
pub lines-end : (line : List ℕ) → is_one_line line ≡ true → 0 < length line → lines (line ++ []) ≡ line ∷ []
lines-end line one some = lines-alone line one ∙ ap (λ l. without_empty_last (l ∷ [])) (append-nil line) ∙ rw (ne_eqb (length line) 0 (omega arith)) refl

pub lines-none : (line : List ℕ) → is_one_line line ≡ true → length line ≡ 0 → lines (line ++ []) ≡ []
lines-none line one none = lines-alone line one ∙ ap (λ l. without_empty_last (l ∷ [])) (append-nil line) ∙ rw (eq-eqb (length line) 0 none) refl

-- the line goes on with a byte that is no newline
pub one_line-byte : (line : List ℕ) (b : ℕ) → is_one_line line ≡ true → b ≢ 10 → is_one_line (line ++ b ∷ []) ≡ true
one_line-byte [] b one h = rw (ne_eqb b 10 h) refl
one_line-byte (x ∷ xs) b one h =
    let both = and_parts (not (is_newline x)) (is_one_line xs) one in
    rw (both.0) (one_line-byte xs b both.1 h)

-- the first line that comes is longer than this
record Longer (n : ℕ) (ls : List (List ℕ)) : Type 0 where
  head : List ℕ
  others : List (List ℕ)
  are : ls ≡ head ∷ others
  long : n < length head

lines-long : (line text : List ℕ) → is_one_line line ≡ true → 4096 < length line → Longer 4096 (lines (line ++ text))
unfolding lines
lines-long line text one long =
    let p = parts text in
    let split : slice_split is_newline (line ++ text) ≡ (line ++ p.head) ∷ p.others = split-one_line line text p.head p.others one p.are in
    let longer : 4096 < length (line ++ p.head) = omega (arith, length-append line p.head) in
    elim p.others as (λ ms. p.others ≡ ms → Longer 4096 (without_empty_last (slice_split is_newline (line ++ text)))) [
      | [] ↦ λ e. record { head = line ++ p.head; others = []; are = rw (split, e) (rw (ne_eqb (length (line ++ p.head)) 0 (omega arith)) refl); long = longer }
      | ◌∷◌ m ms ↦ λ e. record { head = line ++ p.head; others = without_empty_last (m ∷ ms); are = rw (split, e) refl; long = longer }
    ] refl

-- a good line gives its events first
pub good-line : (v : View) (room n : ℕ) (l : List ℕ) (ls : List (List ℕ)) (es : List Event) → Some es ≡ events_of_line l
    → out_seen v room (reads_from n (l ∷ ls)) ≡ out_seen v room (script_of (es ++ (reads_from (n + 1) ls).events) (reads_from (n + 1) ls).bad)
good-line v room n l ls es h = rw (← h) refl

-- a bad line ends all
pub bad-line : (v : View) (room n : ℕ) (l : List ℕ) (ls : List (List ℕ)) → None ≡ events_of_line l → out_seen v room (reads_from n (l ∷ ls)) ≡ text_end (Some n)
bad-line v room n l ls h = rw (← h) (out_seen-end v room (Some n))

long-is-bad : (l : List ℕ) → 4096 < length l → None ≡ events_of_line l
unfolding events_of_line
long-is-bad l h = rw (lt-leb (length l) 4096 h) refl

-- a line that is too long is bad, whatever follows
pub long-line : (v : View) (room n : ℕ) (line text : List ℕ) → is_one_line line ≡ true → 4096 < length line
    → out_seen v room (reads_from n (lines (line ++ text))) ≡ text_end (Some n)
long-line v room n line text one long =
    let first = lines-long line text one long in
    ap (λ ls. out_seen v room (reads_from n ls)) first.are ∙ bad-line v room n first.head first.others (long-is-bad first.head first.long)

-- Where a line has come to its end and the run goes on, the text that follows begins a new line.
pub goes-emptied : (r : Result (Unit {0}) Stop) (a b : Option (List ℕ)) (x : Output) (F : List (List ℕ) → Output) (line text : List ℕ) → OnOk r (line ≡ [])
    → Goes r a x b (F (lines text)) → Goes r a x b (F (lines (line ++ text)))
goes-emptied (Ok u) a b x F line text empty h = rw empty h
goes-emptied (Err s) a b x F line text empty h = goes-stop s a b x (F (lines text)) (F (lines (line ++ text))) h

-- with no line left to come the text ends
pub none-come : (v : View) (room n : ℕ) → status_alone 0 ≡ out_seen v room (reads_from n [])
unfolding text_end
none-come v room n = sym (out_seen-end v room None)

-- what is still to come of a text depends on the trail, the line so far and its number, and on what is gathered
pub same-come : (old new : Run) (text : List ℕ) → new.trail ≡ old.trail → new.number ≡ old.number → new.line ≡ old.line
    → behind new.output.items (out_seen (seen_so_far old) (events_left old) (reads_from old.number (lines (old.line.items ++ text)))) ≡ to_come new text
same-come old new text trail number line = rw (trail, number, line) refl
