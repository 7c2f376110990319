-- A trail is read again as the events that it was printed of.
use Rattle.std.proofs.Common.{◌≡◌, ℕ, zero, suc, ◌+◌, ◌<◌, ◌≤◌, false, List, [], ◌∷◌, ◌++◌, length, map, take_all, All, slice_index_or, None, Ok, refl, ap, ◌∙◌, append-nil, arith, le-ltb}
use Rattle.std.specs.Prelude.{codes}
use Rattle.std.specs.List.{AllByRecursion, slice_split}
use Rattle.std.proofs.lemmas.Bool.{ne_eqb}
use Rattle.std.proofs.lemmas.List.Splits.{slice_split_at, length-slice_split}
use Rattle.sys_types.specs.declared.limits.TheConstants.{TRAIL_EVENTS}
use Rattle.call_words.specs.declared.event.Event.{Event}
use Rattle.user_db.specs.declared.boot.Boot.{Boot}
use Rattle.user_db.specs.Boot.{boot_of}
use Rattle.user_db.specs.Lines.{is_newline, without_empty_last, lines}
use Rattle.script_text.specs.Grammar.{Field, Fits, word_of, fields}
use Rattle.script_text.specs.Printing.{behind_blanks, line_text, event_line}
use Rattle.script_text.proofs.OneWord.{IsSolid, word_is_solid}
use Rattle.script_text.proofs.LinesBack.{event_back}
use Rattle.script_model.specs.Reading.{reads_from, reads}
use Rattle.script_model.specs.Script.{answers, text_end, run_out, script_out, bytes_and_status}
use Rattle.script_model.specs.Trail.{trail, IsPrintable}

-- each byte is a blank or above
abbrev IsPlain : List ℕ → Type 0
IsPlain bs = AllByRecursion (λ b. 32 ≤ b) bs

plain_append : (xs ys : List ℕ) → IsPlain xs → IsPlain ys → IsPlain (xs ++ ys)
plain_append [] ys first second = second
plain_append (x ∷ xs) ys first second = (first.0, plain_append xs ys first.1 second)

solid_is_plain : (bs : List ℕ) → IsSolid bs → IsPlain bs
solid_is_plain [] h = tt
solid_is_plain (b ∷ bs) h = (omega (arith, h.0), solid_is_plain bs h.1)

plain_words : (fs : List Field) → AllByRecursion Fits fs → IsPlain (behind_blanks fs)
plain_words [] h = tt
plain_words (f ∷ fs) h =
    plain_append (codes " " ++ word_of f) (behind_blanks fs) (omega arith, solid_is_plain (word_of f) (word_is_solid f h.0)) (plain_words fs h.1)

plain_line : (fs : List Field) → AllByRecursion Fits fs → IsPlain (line_text fs)
plain_line [] h = tt
plain_line (f ∷ fs) h = plain_append (word_of f) (behind_blanks fs) (solid_is_plain (word_of f) (word_is_solid f h.0)) (plain_words fs h.1)

-- no byte of such a text is a newline
no_newline : (bs : List ℕ) → IsPlain bs → All (λ b. is_newline b ≡ false) bs
no_newline [] h = λ k d within. absurd (omega arith)
no_newline (b ∷ bs) h = λ k d within. elim k as (λ k. k < length (b ∷ bs) → is_newline (slice_index_or (b ∷ bs) k d) ≡ false) [
  | zero ↦ λ within. ne_eqb b 10 (λ e. omega (arith, e, h.0))
  | suc k ↦ λ within. no_newline bs h.1 k d (omega arith)
] within

-- a line that others follow stays
line_stays : (l : List ℕ) (parts : List (List ℕ)) → 0 < length parts → without_empty_last (l ∷ parts) ≡ l ∷ without_empty_last parts
line_stays l [] some = absurd (omega arith)
line_stays l (m ∷ parts) some = refl

lines_of_trail : (es : List Event) → AllByRecursion IsPrintable es → lines (trail es) ≡ map event_line es
unfolding lines
lines_of_trail [] h = refl
lines_of_trail (e ∷ es) h =
    let rest = slice_split is_newline (trail es) in
    let some : 0 < length rest = omega (arith, length-slice_split is_newline (trail es)) in
    ap without_empty_last (slice_split_at is_newline (event_line e) 10 (trail es) (no_newline (event_line e) (plain_line (fields e) h.0.fit)) refl)
    ∙ line_stays (event_line e) rest some
    ∙ ap (λ (ls : List (List ℕ)). event_line e ∷ ls) (lines_of_trail es h.1)

trail_is_read : (es : List Event) (n : ℕ) → AllByRecursion IsPrintable es → reads_from n (map event_line es) ≡ record { events = es; bad = None }
trail_is_read [] n h = refl
trail_is_read (e ∷ es) n h = rw (event_back e h.0.may h.0.fit h.0.short, trail_is_read es (n + 1) h.1) refl

pub trail_back : (es : List Event) → AllByRecursion IsPrintable es → reads (trail es) ≡ record { events = es; bad = None }
trail_back es h = ap (reads_from 1) (lines_of_trail es h) ∙ trail_is_read es 1 h

-- a run of events for which there is room, without a bad line
run_to_its_end : (says : Boot) (es : List Event) → length es ≤ TRAIL_EVENTS → bytes_and_status (run_out says (record { events = es; bad = None })) ≡ (answers says es, 0)
unfolding text_end
run_to_its_end says es room = rw (le-ltb TRAIL_EVENTS (length es) room, take_all TRAIL_EVENTS es room, append-nil) refl

pub trail_is_answered : (boot_text : List ℕ) (says : Boot) (es : List Event) → boot_of boot_text ≡ Ok says → length es ≤ TRAIL_EVENTS
    → AllByRecursion IsPrintable es → bytes_and_status (script_out boot_text (trail es)) ≡ (answers says es, 0)
trail_is_answered boot_text says es good room h = rw (good, trail_back es h) (run_to_its_end says es room)
