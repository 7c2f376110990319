-- The line that is printed of an event is read as that event alone.
use Rattle.std.proofs.Common.{◌≡◌, ℕ, ◌<◌, eqb, List, [], ◌∷◌, length, map, Some, refl, sym, ap, subst, ◌∙◌, append-nil, arith}
use Rattle.std.specs.List.{AllByRecursion}
use Rattle.std.proofs.lemmas.List.Splits.{slice_split_none, slice_split_at}
use Rattle.call_words.specs.declared.event.Event.{Event}
use Rattle.call_words.specs.declared.event.Event.TheVariants as event
use Rattle.call_words.specs.Events.{MayBeUsed}
use Rattle.script_text.specs.Words.{words, parts_of}
use Rattle.script_text.specs.Reading.{events_of_line}
use Rattle.script_text.specs.Grammar.{Field, Fits, SayAll, word_of, fields, Ask, asks_call, asks_again, asks_carrier, asks_take, asks_end, asks_bytes}
use Rattle.script_text.specs.Printing.{line_text, event_line, HasLine}
use Rattle.script_text.proofs.ReadBack.{word_back}
use Rattle.script_text.proofs.OneWord.{word_is_solid, no_blank}
use Rattle.script_text.proofs.Asking.{line_is_read}

-- the words of a line are those that it was printed of
words_of_line : (fs : List Field) (f : Field) → AllByRecursion Fits (f ∷ fs) → words (line_text (f ∷ fs)) ≡ map word_of (f ∷ fs)
unfolding parts_of
words_of_line [] f h =
    ap words (append-nil (word_of f)) ∙ slice_split_none (λ b. eqb b 32) (word_of f) (no_blank (word_of f) (word_is_solid f h.0))
words_of_line (g ∷ fs) f h =
    slice_split_at (λ b. eqb b 32) (word_of f) 32 (line_text (g ∷ fs)) (no_blank (word_of f) (word_is_solid f h.0)) refl
    ∙ ap (λ (parts : List (List ℕ)). word_of f ∷ parts) (words_of_line fs g h.1)

-- and they say its fields
they_say : (fs : List Field) → AllByRecursion Fits fs → SayAll fs (map word_of fs)
they_say [] h = tt
they_say (f ∷ fs) h = (word_back f h.0, they_say fs h.1)

line_says : (fs : List Field) → 0 < length fs → AllByRecursion Fits fs → SayAll fs (words (line_text fs))
line_says [] some h = absurd (omega arith)
line_says (f ∷ fs) some h = subst (λ (ws : List (List ℕ)). SayAll (f ∷ fs) ws) (sym (words_of_line fs f h)) (they_say (f ∷ fs) h)

line_asks : (e : Event) → MayBeUsed e → AllByRecursion Fits (fields e) → Ask (words (event_line e)) (e ∷ [])
line_asks (event.Call n c) may h = asks_call n c refl (line_says (fields (event.Call n c)) (omega arith) h)
line_asks (event.Again n) may h = asks_again n refl (line_says (fields (event.Again n)) (omega arith) h)
line_asks (event.Byte n b) may h = asks_bytes n (b ∷ []) (omega arith) refl (line_says (fields (event.Byte n b)) (omega arith) h)
line_asks (event.Carrier n up) may h = asks_carrier n up refl (line_says (fields (event.Carrier n up)) (omega arith) h)
line_asks (event.Take n m) may h = asks_take n m may.1 refl (line_says (fields (event.Take n m)) (omega arith) h)
line_asks (event.Ended n) may h = asks_end n refl (line_says (fields (event.Ended n)) (omega arith) h)

pub event_back : (e : Event) → MayBeUsed e → AllByRecursion Fits (fields e) → HasLine e → events_of_line (event_line e) ≡ Some (e ∷ [])
event_back e may h short = line_is_read (event_line e) (e ∷ []) (record { short = short; asks = line_asks e may h })
