-- Lines are read by the grammar: what is read is said so, and what is said so is read.
use Rattle.std.proofs.Common.{◌≡◌, ◌∙◌, ℕ, ◌<◌, Bool, true, false, cond, not, eqb, leb, List, [], ◌∷◌, length, Some, None, option_and_then, refl, sym, arith}
use Rattle.std.proofs.Common.{inl, inr}
use Rattle.std.specs.Prelude.{codes}
use Rattle.std.specs.Str.{bytes_eq}
use Rattle.std.proofs.lemmas.Bool.{eqb-false, leb-true, le-leb, ne_eqb, not-true, false_from_ne_true}
use Rattle.call_words.specs.declared.call.Call.{Call}
use Rattle.call_words.specs.declared.event.Event.{Event}
use Rattle.call_words.specs.declared.event.Event.TheVariants as event
use Rattle.script_text.specs.Words.{words, only_if, number_below, bytes_of_word}
use Rattle.script_text.specs.Values.{slot_of, line_of, take_max_of}
use Rattle.script_text.specs.Calls.{call_of}
use Rattle.call_words.specs.declared.call.Call.TheVariants as call
use Rattle.script_text.specs.Args.{alone}
use Rattle.script_text.specs.Reading.{arrivals, in_of, take_of, carrier_of, end_of, slot_events_of, slot_line_of, events_of_words, events_of_line}
use Rattle.script_text.specs.Grammar.{SayAll, call_fields, Ask, asks_call, asks_again, asks_carrier, asks_take, asks_end, asks_bytes, IsLine}
use Rattle.script_text.proofs.ChoiceLemmas.{choice_of, step_source, map_source, same_text}
use Rattle.script_text.proofs.CallsSayLemmas.{call_said}
use Rattle.script_text.proofs.CallsRead.{call_is_read}

-- the value that passed a test
kept : {A : Type 0} (test : Bool) (x y : A) → only_if test (Some x) ≡ Some y → (test ≡ true) × (x ≡ y)
kept true x y e = (refl, cc)
kept false x y e = absurd cc

in_said : (n : List ℕ) (ws : List (List ℕ)) (es : List Event) → n ≡ codes "in" → in_of ws ≡ Some es → Ask (n ∷ ws) es
in_said n [] es named e = absurd cc
in_said n (t ∷ []) es named e = absurd cc
in_said n (t ∷ b ∷ []) es named e =
    let s =
    step_source (λ (x : ℕ). option_and_then (λ (bs : List ℕ). only_if (not (eqb (length bs) 0)) (Some (arrivals x bs))) (bytes_of_word b)) (line_of t) es e in
    let u = step_source (λ (bs : List ℕ). only_if (not (eqb (length bs) 0)) (Some (arrivals s.value bs))) (bytes_of_word b) es s.gives in
    let k = kept (not (eqb (length u.value) 0)) (arrivals s.value u.value) es u.gives in
    let some : 0 < length u.value = omega (arith, eqb-false (length u.value) 0 (not-true _ k.0)) in
    asks_bytes s.value u.value some (sym k.1) (named, (s.was, (u.was, tt)))
in_said n (t ∷ b ∷ x ∷ ws) es named e = absurd cc

take_said : (n : List ℕ) (ws : List (List ℕ)) (es : List Event) → n ≡ codes "take" → take_of ws ≡ Some es → Ask (n ∷ ws) es
take_said n [] es named e = absurd cc
take_said n (t ∷ []) es named e = absurd cc
take_said n (t ∷ m ∷ []) es named e =
    let s = step_source (λ (x : ℕ). option_and_then (λ (y : ℕ). only_if (not (eqb y 0)) (Some (event.Take x y ∷ []))) (take_max_of m)) (line_of t) es e in
    let u = step_source (λ (y : ℕ). only_if (not (eqb y 0)) (Some (event.Take s.value y ∷ []))) (take_max_of m) es s.gives in
    let k = kept (not (eqb u.value 0)) (event.Take s.value u.value ∷ []) es u.gives in
    let some : 0 < u.value = omega (arith, eqb-false u.value 0 (not-true _ k.0)) in
    asks_take s.value u.value some (sym k.1) (named, (s.was, (u.was, tt)))
take_said n (t ∷ m ∷ x ∷ ws) es named e = absurd cc

carrier_said : (n : List ℕ) (ws : List (List ℕ)) (up : Bool) (es : List Event) → n ≡ cond up (codes "up") (codes "down") → carrier_of up ws ≡ Some es
    → Ask (n ∷ ws) es
carrier_said n [] up es named e = absurd cc
carrier_said n (t ∷ []) up es named e =
    let s = map_source (λ (x : ℕ). event.Carrier x up ∷ []) (line_of t) es e in
    asks_carrier s.value up (sym s.gives) (named, (s.was, tt))
carrier_said n (t ∷ x ∷ ws) up es named e = absurd cc

end_said : (n : List ℕ) (ws : List (List ℕ)) (es : List Event) → n ≡ codes "end" → end_of ws ≡ Some es → Ask (n ∷ ws) es
end_said n [] es named e = absurd cc
end_said n (t ∷ []) es named e =
    let s = map_source (λ (x : ℕ). event.Ended x ∷ []) (line_of t) es e in
    asks_end s.value (sym s.gives) (named, (s.was, tt))
end_said n (t ∷ x ∷ ws) es named e = absurd cc

again_said : (n : List ℕ) (slot : ℕ) (w : List ℕ) (ws : List (List ℕ)) (es : List Event) → slot_of n ≡ Some slot → w ≡ codes "again"
    → alone (event.Again slot ∷ []) ws ≡ Some es → Ask (n ∷ w ∷ ws) es
again_said n slot w [] es is named e =
    let same : event.Again slot ∷ [] ≡ es = cc in
    asks_again slot (sym same) (is, (named, tt))
again_said n slot w (x ∷ ws) es is named e = absurd cc

asked_said : (n : List ℕ) (slot : ℕ) (ws : List (List ℕ)) (es : List Event) → slot_of n ≡ Some slot → slot_events_of slot ws ≡ Some es → Ask (n ∷ ws) es
asked_said n slot [] es is e = absurd cc
asked_said n slot (w ∷ ws) es is e = elim (choice_of (bytes_eq w (codes "again")) _ _ (Some es) e) [
  | inl h ↦ again_said n slot w ws es is (same_text w (codes "again") h.0) h.1
  | inr other ↦
      let t = map_source (λ (c : Call). event.Call slot c ∷ []) (call_of w ws) es other.1 in
      asks_call slot t.value (sym t.gives) (is, call_said w ws t.value t.was)
]

slot_said : (n : List ℕ) (ws : List (List ℕ)) (es : List Event) → slot_line_of n ws ≡ Some es → Ask (n ∷ ws) es
slot_said n ws es e =
    let s = step_source (λ (x : ℕ). slot_events_of x ws) (slot_of n) es e in
    asked_said n s.value ws es s.was s.gives

words_said : (ws : List (List ℕ)) (es : List Event) → events_of_words ws ≡ Some es → Ask ws es
words_said [] es e = absurd cc
words_said (w ∷ ws) es e = elim (choice_of (bytes_eq w (codes "in")) _ _ (Some es) e) [
  | inl h ↦ in_said w ws es (same_text w (codes "in") h.0) h.1
  | inr other ↦ elim (choice_of (bytes_eq w (codes "take")) _ _ (Some es) other.1) [
    | inl h ↦ take_said w ws es (same_text w (codes "take") h.0) h.1
    | inr other ↦ elim (choice_of (bytes_eq w (codes "up")) _ _ (Some es) other.1) [
      | inl h ↦ carrier_said w ws true es (same_text w (codes "up") h.0) h.1
      | inr other ↦ elim (choice_of (bytes_eq w (codes "down")) _ _ (Some es) other.1) [
        | inl h ↦ carrier_said w ws false es (same_text w (codes "down") h.0) h.1
        | inr other ↦ elim (choice_of (bytes_eq w (codes "end")) _ _ (Some es) other.1) [
          | inl h ↦ end_said w ws es (same_text w (codes "end") h.0) h.1
          | inr other ↦ slot_said w ws es other.1
        ]
      ]
    ]
  ]
]

-- the name of an event is no slot
not_named : (w other : List ℕ) (n : ℕ) → slot_of w ≡ Some n → slot_of other ≡ None → bytes_eq w other ≡ false
not_named w other n h none = false_from_ne_true (bytes_eq w other) (λ e. let same : w ≡ other = same_text w other e in cc)

in_is_none : slot_of (codes "in") ≡ None
unfolding number_below
in_is_none = refl

take_is_none : slot_of (codes "take") ≡ None
unfolding number_below
take_is_none = refl

up_is_none : slot_of (codes "up") ≡ None
unfolding number_below
up_is_none = refl

down_is_none : slot_of (codes "down") ≡ None
unfolding number_below
down_is_none = refl

end_is_none : slot_of (codes "end") ≡ None
unfolding number_below
end_is_none = refl

-- a line whose first word is a slot is that slot's
slot_is_read : (w : List ℕ) (ws : List (List ℕ)) (n : ℕ) → slot_of w ≡ Some n → events_of_words (w ∷ ws) ≡ slot_events_of n ws
slot_is_read w ws n h =
    rw (
      not_named w (codes "in") n h in_is_none,
      not_named w (codes "take") n h take_is_none,
      not_named w (codes "up") n h up_is_none,
      not_named w (codes "down") n h down_is_none,
      not_named w (codes "end") n h end_is_none,
      h,
    ) refl

-- no call is named again
not_again : (c : Call) (w : List ℕ) (ws : List (List ℕ)) → SayAll (call_fields c) (w ∷ ws) → bytes_eq w (codes "again") ≡ false
not_again (call.Open p a f m) w ws h = rw h.0 refl
not_again (call.Close n) w ws h = rw h.0 refl
not_again (call.Dup n) w ws h = rw h.0 refl
not_again (call.Dup2 n m) w ws h = rw h.0 refl
not_again (call.Read n m) w ws h = rw h.0 refl
not_again (call.Write n bs) w ws h = rw h.0 refl
not_again (call.Chdir p) w ws h = rw h.0 refl
not_again (call.Mkdir p m) w ws h = rw h.0 refl
not_again (call.Rmdir p) w ws h = rw h.0 refl
not_again (call.Unlink p) w ws h = rw h.0 refl
not_again (call.List p k) w ws h = rw h.0 refl
not_again (call.Info p) w ws h = rw h.0 refl
not_again (call.Chmod p m) w ws h = rw h.0 refl
not_again (call.Chown p u g) w ws h = rw h.0 refl
not_again (call.SetAcl p l es) w ws h = rw h.0 refl
not_again (call.GetAcl p l) w ws h = rw h.0 refl
not_again (call.SetLabel p e) w ws h = rw h.0 refl
not_again (call.GetLabel p) w ws h = rw h.0 refl
not_again (call.SetProcLabel s) w ws h = rw h.0 refl
not_again call.Ident w ws h = rw h.0 refl
not_again (call.SetCred c) w ws h = rw h.0 refl
not_again (call.Umask m) w ws h = rw h.0 refl
not_again call.Pipe w ws h = rw h.0 refl
not_again call.Begin w ws h = rw h.0 refl
not_again (call.Fork bs) w ws h = rw h.0 refl
not_again (call.Exec p bs) w ws h = rw h.0 refl
not_again (call.Exit n) w ws h = rw h.0 refl
not_again (call.Wait n f) w ws h = rw h.0 refl
not_again call.SetSid w ws h = rw h.0 refl
not_again (call.SetPgid n g) w ws h = rw h.0 refl
not_again call.Ps w ws h = rw h.0 refl
not_again call.Halt w ws h = rw h.0 refl
not_again (call.Kill t s) w ws h = rw h.0 refl
not_again (call.SigSet s a) w ws h = rw h.0 refl
not_again call.SigTake w ws h = rw h.0 refl
not_again call.Pause w ws h = rw h.0 refl
not_again (call.SetCtty n) w ws h = rw h.0 refl
not_again (call.TcGetAttr n) w ws h = rw h.0 refl
not_again (call.TcSetAttr n m t) w ws h = rw h.0 refl
not_again (call.TcFlush n q) w ws h = rw h.0 refl
not_again (call.TcDrain n) w ws h = rw h.0 refl
not_again (call.TcSetPgrp n g) w ws h = rw h.0 refl
not_again (call.TcGetPgrp n) w ws h = rw h.0 refl
not_again (call.FdName n) w ws h = rw h.0 refl
not_again (call.Revoke p) w ws h = rw h.0 refl

-- a call has a name
some_words : (c : Call) → SayAll (call_fields c) [] → ⊥
some_words (call.Open p a f m) h = h.0
some_words (call.Close n) h = h.0
some_words (call.Dup n) h = h.0
some_words (call.Dup2 n m) h = h.0
some_words (call.Read n m) h = h.0
some_words (call.Write n bs) h = h.0
some_words (call.Chdir p) h = h.0
some_words (call.Mkdir p m) h = h.0
some_words (call.Rmdir p) h = h.0
some_words (call.Unlink p) h = h.0
some_words (call.List p k) h = h.0
some_words (call.Info p) h = h.0
some_words (call.Chmod p m) h = h.0
some_words (call.Chown p u g) h = h.0
some_words (call.SetAcl p l es) h = h.0
some_words (call.GetAcl p l) h = h.0
some_words (call.SetLabel p e) h = h.0
some_words (call.GetLabel p) h = h.0
some_words (call.SetProcLabel s) h = h.0
some_words call.Ident h = h.0
some_words (call.SetCred c) h = h.0
some_words (call.Umask m) h = h.0
some_words call.Pipe h = h.0
some_words call.Begin h = h.0
some_words (call.Fork bs) h = h.0
some_words (call.Exec p bs) h = h.0
some_words (call.Exit n) h = h.0
some_words (call.Wait n f) h = h.0
some_words call.SetSid h = h.0
some_words (call.SetPgid n g) h = h.0
some_words call.Ps h = h.0
some_words call.Halt h = h.0
some_words (call.Kill t s) h = h.0
some_words (call.SigSet s a) h = h.0
some_words call.SigTake h = h.0
some_words call.Pause h = h.0
some_words (call.SetCtty n) h = h.0
some_words (call.TcGetAttr n) h = h.0
some_words (call.TcSetAttr n m t) h = h.0
some_words (call.TcFlush n q) h = h.0
some_words (call.TcDrain n) h = h.0
some_words (call.TcSetPgrp n g) h = h.0
some_words (call.TcGetPgrp n) h = h.0
some_words (call.FdName n) h = h.0
some_words (call.Revoke p) h = h.0

words_are_read : (ws : List (List ℕ)) (es : List Event) → Ask ws es → events_of_words ws ≡ Some es
words_are_read [] es (asks_call n c same h) = absurd h.0
words_are_read (w ∷ []) es (asks_call n c same h) = absurd (some_words c h.1)
words_are_read (w ∷ x ∷ ws) es (asks_call n c same h) =
    slot_is_read w (x ∷ ws) n h.0 ∙ rw (not_again c x ws h.1, call_is_read c x ws h.1, same) refl
words_are_read [] es (asks_again n same h) = absurd h.0
words_are_read (w ∷ []) es (asks_again n same h) = absurd h.1.0
words_are_read (w ∷ x ∷ []) es (asks_again n same h) = slot_is_read w (x ∷ []) n h.0 ∙ rw (h.1.0, same) refl
words_are_read (w ∷ x ∷ y ∷ ws) es (asks_again n same h) = absurd h.1.1
words_are_read [] es (asks_carrier n up same h) = absurd h.0
words_are_read (w ∷ []) es (asks_carrier n up same h) = absurd h.1.0
words_are_read (w ∷ t ∷ []) es (asks_carrier n true same h) = rw (h.0, h.1.0, same) refl
words_are_read (w ∷ t ∷ []) es (asks_carrier n false same h) = rw (h.0, h.1.0, same) refl
words_are_read (w ∷ t ∷ x ∷ ws) es (asks_carrier n up same h) = absurd h.1.1
words_are_read [] es (asks_end n same h) = absurd h.0
words_are_read (w ∷ []) es (asks_end n same h) = absurd h.1.0
words_are_read (w ∷ t ∷ []) es (asks_end n same h) = rw (h.0, h.1.0, same) refl
words_are_read (w ∷ t ∷ x ∷ ws) es (asks_end n same h) = absurd h.1.1
words_are_read [] es (asks_take n m some same h) = absurd h.0
words_are_read (w ∷ []) es (asks_take n m some same h) = absurd h.1.0
words_are_read (w ∷ t ∷ []) es (asks_take n m some same h) = absurd h.1.1.0
words_are_read (w ∷ t ∷ k ∷ []) es (asks_take n m some same h) = rw (h.0, h.1.0, h.1.1.0, ne_eqb m 0 (omega arith), same) refl
words_are_read (w ∷ t ∷ k ∷ x ∷ ws) es (asks_take n m some same h) = absurd h.1.1.1
words_are_read [] es (asks_bytes n bs some same h) = absurd h.0
words_are_read (w ∷ []) es (asks_bytes n bs some same h) = absurd h.1.0
words_are_read (w ∷ t ∷ []) es (asks_bytes n bs some same h) = absurd h.1.1.0
words_are_read (w ∷ t ∷ k ∷ []) es (asks_bytes n bs some same h) = rw (h.0, h.1.0, h.1.1.0, ne_eqb (length bs) 0 (omega arith), same) refl
words_are_read (w ∷ t ∷ k ∷ x ∷ ws) es (asks_bytes n bs some same h) = absurd h.1.1.1

-- the line is short where it is read at all
pub line_said : (text : List ℕ) (es : List Event) → events_of_line text ≡ Some es → IsLine text es
unfolding events_of_line
line_said text es e = elim (choice_of (leb (length text) 4096) (events_of_words (words text)) None (Some es) e) [
  | inl h ↦ record { short = leb-true (length text) 4096 h.0; asks = words_said (words text) es h.1 }
  | inr h ↦ absurd cc
]

pub line_is_read : (text : List ℕ) (es : List Event) → IsLine text es → events_of_line text ≡ Some es
unfolding events_of_line
line_is_read text es h = rw (le-leb (length text) 4096 h.short) (words_are_read (words text) es h.asks)
