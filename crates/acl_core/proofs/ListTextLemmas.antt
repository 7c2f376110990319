-- The text of a whole list: what is read, that it is read again, and where the fault of any other text is.
use Rattle.std.proofs.Common.{◌≡◌, ℕ, zero, suc, ◌+◌, ◌-◌, ◌<◌, ◌≤◌, ◌⊎◌, inl, inr, false, cond, eqb, List, [], ◌∷◌, ◌++◌, length, take, Result, Ok, Err, refl, sym, ap, subst, ◌∙◌, append_assoc, append-nil, arith}
use Rattle.std.specs.Prelude.{codes}
use Rattle.std.specs.List.{flat_map, AllByRecursion}
use Rattle.std.proofs.lemmas.Bool.{cases_Bool, eqb-true, ne_eqb}
use Rattle.std.proofs.lemmas.List.{nil_from_length, length-append}
use Rattle.std.proofs.Math.Seq.{take-append_seam, take-append-add}
use Rattle.std.proofs.lemmas.List.Concat.{flat_map-cons}
use Rattle.acl_core.specs.declared.entry.Entry.{Entry}
use Rattle.acl_core.specs.declared.entry.Tag.TheVariants.{UserObj, User, GroupObj, Group, Mask, Other}
use Rattle.acl_core.specs.Entry.{Fits}
use Rattle.acl_core.specs.declared.entry.Tag.{Tag}
use Rattle.acl_core.specs.Text.{tag_text, perm_text, entry_text, next_text, list_text, HasText, Begins, IsFaultAt}
use Rattle.acl_core.specs.Reading.{◌>>=◌, byte_at, begins_as, entry_at, next_at, more_at, entries_at, list_at, with_place, read_of, stop_at}
use Rattle.acl_core.proofs.EntryLoopLemmas.{one_more}
use Rattle.acl_core.proofs.ReaderLemmas.{FaultIn, Reads, bind_ok, bind_err, byte_reads, word_then_reads, same_first}
use Rattle.acl_core.proofs.EntryGrammarLemmas.{entry_reads}
use Rattle.acl_core.specs.declared.fault.Stop.{Stop}
use Rattle.acl_core.proofs.TextLemmas.{list_text-cons}

-- an entry that fits
abbrev pub some_entry : (e : Entry) × Fits e
some_entry = (record { tag = UserObj; perm = record { read = false; write = false; exec = false } }, omega arith)

-- the reader of a comma and an entry
next_reads : Reads Fits next_text next_at
next_reads = word_then_reads (44 ∷ []) (byte_at 44) entry_text entry_at Fits next_text (byte_reads 44) entry_reads (λ e fits. refl) (some_entry.0, some_entry.1)

-- at most so many entries, which fit
abbrev pub AreMore : ℕ → List Entry → Type 0
AreMore room list = (length list ≤ room) × AllByRecursion Fits list

-- entries, each after a comma
abbrev pub more_text : List Entry → List ℕ
more_text list = flat_map next_text list

-- bytes with one among them are not empty
some_bytes : (front : List ℕ) (b : ℕ) (back : List ℕ) → 0 < length (front ++ b ∷ back)
some_bytes [] b back = omega arith
some_bytes (c ∷ front) b back = omega arith

-- the first after its comma, and the others
more_text-cons : (e : Entry) (list : List Entry) → more_text (e ∷ list) ≡ next_text e ++ more_text list
more_text-cons e list = flat_map-cons next_text e list

-- what is read is spelled so
more_found : (room : ℕ) (bytes : List ℕ) (list : List Entry) → more_at room bytes ≡ Ok list → (bytes ≡ more_text list) × AreMore room list
unfolding more_at
more_found zero [] list e = let same : [] ≡ list = cc in subst (λ (l : List Entry). ([] ≡ more_text l) × AreMore zero l) same (refl, (omega arith, tt))
more_found zero (b ∷ bytes) list e = absurd cc
more_found (suc room) [] list e =
    let same : [] ≡ list = cc in subst (λ (l : List Entry). ([] ≡ more_text l) × AreMore (suc room) l) same (refl, (omega arith, tt))
more_found (suc room) (b ∷ bytes) list e =
    let s = bind_ok (next_at (b ∷ bytes)) (λ next. more_at room next.1 >>= λ others. Ok (next.0 ∷ others)) list e in
    let r = bind_ok (more_at room s.0.1) (λ others. Ok (s.0.0 ∷ others)) list s.2 in
    let same : s.0.0 ∷ r.0 ≡ list = cc in
    let f = next_reads.takes (b ∷ bytes) s.0.0 s.0.1 s.1 in
    let g = more_found room s.0.1 r.0 r.1 in
    subst (λ (l : List Entry). (b ∷ bytes ≡ more_text l) × AreMore (suc room) l) same
    (f.0 ∙ ap (λ xs. next_text s.0.0 ++ xs) g.0 ∙ sym (more_text-cons s.0.0 r.0), (omega (arith, g.1.0), (f.1, g.1.1)))

-- what is spelled so is read
more_again : (room : ℕ) (list : List Entry) → AreMore room list → more_at room (more_text list) ≡ Ok list
unfolding more_at
more_again zero [] v = refl
more_again (suc room) [] v = refl
more_again zero (e ∷ list) v = absurd (omega (arith, v.0))
more_again (suc room) (e ∷ list) v =
    ap (more_at (suc room)) (more_text-cons e list)
    ∙ one_more room (next_text e ++ more_text list) (omega arith)
    ∙ rw (next_reads.again e (more_text list) v.1.0, more_again room list (omega (arith, v.0), v.1.1)) refl

-- where the entries have a fault
more_fault : (room : ℕ) (bytes : List ℕ) (stop : Stop) → more_at room bytes ≡ Err stop → FaultIn (AreMore room) more_text (more_at room) bytes stop
unfolding more_at
more_fault zero [] stop e = absurd cc
more_fault zero (b ∷ bytes) stop e = record {
  front = [];
  back = b ∷ bytes;
  parts = refl;
  place = cc;
  begins = inl refl;
  firm = λ c rest other is. refl;
}
more_fault (suc room) [] stop e = absurd cc
more_fault (suc room) (b ∷ bytes) stop e =
    elim (bind_err (next_at (b ∷ bytes)) (λ next. more_at room next.1 >>= λ others. Ok (next.0 ∷ others)) stop e) [
      | inl stops ↦
          let f = next_reads.fault (b ∷ bytes) stop stops in
          record {
            front = f.front;
            back = f.back;
            parts = f.parts;
            place = f.place;
            begins = elim f.begins [
              | inl none ↦ inl none
              | inr begun ↦ inr (begun.0 ∷ [], begun.1, (omega arith, (begun.2, tt)), more_text-cons begun.0 [] ∙ append-nil (next_text begun.0) ∙ begun.3)
            ];
            firm = λ c rest other is.
                one_more room (f.front ++ c ∷ other) (some_bytes f.front c other)
                ∙ ap (λ r. r >>= λ next. more_at room next.1 >>= λ others. Ok (next.0 ∷ others)) (f.firm c rest other is);
          }
      | inr goes ↦
          let first = goes.0.0 in
          let f = next_reads.takes (b ∷ bytes) first goes.0.1 goes.1 in
          elim (bind_err (more_at room goes.0.1) (λ others. Ok (first ∷ others)) stop goes.2) [
            | inl stops ↦
                let g = more_fault room goes.0.1 stop stops in
                record {
                  front = next_text first ++ g.front;
                  back = g.back;
                  parts = f.0 ∙ ap (λ xs. next_text first ++ xs) g.parts ∙ sym (append_assoc (next_text first) g.front g.back);
                  place = g.place;
                  begins = elim g.begins [
                    | inl none ↦
                        inr (
                          first ∷ [],
                          [],
                          (omega arith, (f.1, tt)),
                          more_text-cons first [] ∙ ap (λ xs. next_text first ++ xs) (sym none) ∙ sym (append-nil (next_text first ++ g.front)),
                        )
                    | inr begun ↦
                        inr (
                          first ∷ begun.0,
                          begun.1,
                          (omega (arith, begun.2.0), (f.1, begun.2.1)),
                          more_text-cons first begun.0 ∙ ap (λ xs. next_text first ++ xs) begun.3 ∙ sym (append_assoc (next_text first) g.front begun.1),
                        )
                  ];
                  firm = λ c rest other is.
                      ap (more_at (suc room)) (append_assoc (next_text first) g.front (c ∷ other))
                      ∙ one_more room (next_text first ++ (g.front ++ c ∷ other)) (omega arith)
                      ∙ rw (next_reads.again first (g.front ++ c ∷ other) f.1) (ap (λ r. r >>= λ others. Ok (first ∷ others)) (g.firm c rest other is));
                }
            | inr never ↦ let is : ◌≡◌ {A = Result (List Entry) Stop} (Ok (first ∷ never.0)) (Err stop) = never.2 in absurd cc
          ]
    ]

-- ---- one entry or more

-- at least one entry and at most 64, which fit
abbrev pub IsFull : List Entry → Type 0
IsFull [] = ⊥
IsFull (e ∷ list) = Fits e × AreMore 63 list

-- what is read is spelled so
entries_found : (bytes : List ℕ) (list : List Entry) → entries_at bytes ≡ Ok list → (bytes ≡ list_text list) × IsFull list
unfolding entries_at
entries_found bytes list e =
    let s = bind_ok (entry_at bytes) (λ first. more_at 63 first.1 >>= λ others. Ok (first.0 ∷ others)) list e in
    let r = bind_ok (more_at 63 s.0.1) (λ others. Ok (s.0.0 ∷ others)) list s.2 in
    let same : s.0.0 ∷ r.0 ≡ list = cc in
    let f = entry_reads.takes bytes s.0.0 s.0.1 s.1 in
    let g = more_found 63 s.0.1 r.0 r.1 in
    subst (λ (l : List Entry). (bytes ≡ list_text l) × IsFull l) same (f.0 ∙ ap (λ xs. entry_text s.0.0 ++ xs) g.0 ∙ sym (list_text-cons s.0.0 r.0), (f.1, g.1))

-- what is spelled so is read
entries_again : (list : List Entry) → IsFull list → entries_at (list_text list) ≡ Ok list
unfolding entries_at
entries_again [] v = absurd v
entries_again (e ∷ list) v =
    ap entries_at (list_text-cons e list) ∙ rw (entry_reads.again e (more_text list) v.0, more_again 63 list v.1) refl

-- where the entries have a fault
entries_fault : (bytes : List ℕ) (stop : Stop) → entries_at bytes ≡ Err stop → FaultIn IsFull list_text entries_at bytes stop
unfolding entries_at list_text
entries_fault bytes stop e =
    elim (bind_err (entry_at bytes) (λ first. more_at 63 first.1 >>= λ others. Ok (first.0 ∷ others)) stop e) [
      | inl stops ↦
          let f = entry_reads.fault bytes stop stops in
          record {
            front = f.front;
            back = f.back;
            parts = f.parts;
            place = f.place;
            begins = elim f.begins [
              | inl none ↦ inl none
              | inr begun ↦ inr (begun.0 ∷ [], begun.1, (begun.2, (omega arith, tt)), begun.3)
            ];
            firm = λ c rest other is. ap (λ r. r >>= λ first. more_at 63 first.1 >>= λ others. Ok (first.0 ∷ others)) (f.firm c rest other is);
          }
      | inr goes ↦
          let first = goes.0.0 in
          let f = entry_reads.takes bytes first goes.0.1 goes.1 in
          elim (bind_err (more_at 63 goes.0.1) (λ others. Ok (first ∷ others)) stop goes.2) [
            | inl stops ↦
                let g = more_fault 63 goes.0.1 stop stops in
                record {
                  front = entry_text first ++ g.front;
                  back = g.back;
                  parts = f.0 ∙ ap (λ xs. entry_text first ++ xs) g.parts ∙ sym (append_assoc (entry_text first) g.front g.back);
                  place = g.place;
                  begins = elim g.begins [
                    | inl none ↦
                        inr (
                          first ∷ [],
                          [],
                          (f.1, (omega arith, tt)),
                          sym (append-nil (entry_text first)) ∙ ap (λ xs. entry_text first ++ xs) (sym none) ∙ sym (append-nil (entry_text first ++ g.front)),
                        )
                    | inr begun ↦
                        inr (
                          first ∷ begun.0,
                          begun.1,
                          (f.1, begun.2),
                          list_text-cons first begun.0 ∙ ap (λ xs. entry_text first ++ xs) begun.3 ∙ sym (append_assoc (entry_text first) g.front begun.1),
                        )
                  ];
                  firm = λ c rest other is.
                      ap entries_at (append_assoc (entry_text first) g.front (c ∷ other))
                      ∙ rw (entry_reads.again first (g.front ++ c ∷ other) f.1) (ap (λ r. r >>= λ others. Ok (first ∷ others)) (g.firm c rest other is));
                }
            | inr never ↦ let is : ◌≡◌ {A = Result (List Entry) Stop} (Ok (first ∷ never.0)) (Err stop) = never.2 in absurd cc
          ]
    ]

-- ---- the whole text

-- a dash has to be alone
dash_read : (rest : List ℕ) → list_at (45 ∷ rest) ≡ cond (eqb (length rest) 0) (Ok []) (Err (stop_at rest))
unfolding list_at
dash_read rest = refl

-- where no dash comes first, entries are read
list_entries : (bytes : List ℕ) → begins_as (codes "-") bytes ≡ false → list_at bytes ≡ entries_at bytes
unfolding list_at
list_entries bytes other = rw other refl

-- a dash comes first, or not
dash_or_not : (bytes : List ℕ) → ((rest : List ℕ) × (bytes ≡ 45 ∷ rest)) ⊎ (begins_as (codes "-") bytes ≡ false)
dash_or_not [] = inr refl
dash_or_not (b ∷ bytes) =
    elim (cases_Bool (eqb b 45)) [
      | inl dash ↦ inl (bytes, ap (λ c. c ∷ bytes) (eqb-true b 45 dash))
      | inr other ↦ inr other
    ]

-- at least one entry has a text
full_has_text : (list : List Entry) → IsFull list → HasText list
full_has_text [] v = absurd v
full_has_text (e ∷ list) v = record { most = omega (arith, v.1.0); fit = (v.0, v.1.1) }

-- no entry has a text
no_entry_has_text : HasText []
no_entry_has_text = record { most = omega arith; fit = tt }

-- what is read is spelled so
pub list_found : (bytes : List ℕ) (list : List Entry) → list_at bytes ≡ Ok list → (bytes ≡ list_text list) × HasText list
unfolding list_text
list_found bytes list e =
    elim (dash_or_not bytes) [
      | inl dash ↦
          let on : cond (eqb (length dash.0) 0) (Ok []) (Err (stop_at dash.0)) ≡ Ok list = sym (dash_read dash.0) ∙ ap list_at (sym dash.1) ∙ e in
          elim (cases_Bool (eqb (length dash.0) 0)) [
            | inl none ↦
                let is : ◌≡◌ {A = Result (List Entry) Stop} (Ok []) (Ok list) = rw none at on in
                let same : [] ≡ list = cc in
                let rest = nil_from_length dash.0 (eqb-true (length dash.0) 0 none) in
                subst (λ (l : List Entry). (bytes ≡ list_text l) × HasText l) same (dash.1 ∙ ap (λ xs. 45 ∷ xs) rest, no_entry_has_text)
            | inr more ↦ let is : ◌≡◌ {A = Result (List Entry) Stop} (Err (stop_at dash.0)) (Ok list) = rw more at on in absurd cc
          ]
      | inr other ↦
          let f = entries_found bytes list (sym (list_entries bytes other) ∙ e) in
          (f.0, full_has_text list f.1)
    ]

-- no tag starts with a dash
no_dash : (tag : Tag) (rest : List ℕ) → begins_as (codes "-") (tag_text tag ++ rest) ≡ false
no_dash UserObj rest = refl
no_dash (User n) rest = refl
no_dash GroupObj rest = refl
no_dash (Group n) rest = refl
no_dash Mask rest = refl
no_dash Other rest = refl

-- no text of an entry starts with a dash
list_text_no_dash : (e : Entry) (list : List Entry) → begins_as (codes "-") (list_text (e ∷ list)) ≡ false
list_text_no_dash e list =
    ap (begins_as (codes "-")) (list_text-cons e list ∙ append_assoc (tag_text e.tag) (perm_text e.perm) (more_text list))
    ∙ no_dash e.tag (perm_text e.perm ++ more_text list)

-- what is spelled so is read
pub list_again : (list : List Entry) → HasText list → list_at (list_text list) ≡ Ok list
unfolding list_text
list_again [] v = dash_read []
list_again (e ∷ list) v =
    list_entries (list_text (e ∷ list)) (list_text_no_dash e list) ∙ entries_again (e ∷ list) (v.fit.0, (omega (arith, v.most), v.fit.1))

-- where the text has its fault
list_fault : (bytes : List ℕ) (stop : Stop) → list_at bytes ≡ Err stop → FaultIn HasText list_text list_at bytes stop
unfolding list_text
list_fault bytes stop e =
    elim (dash_or_not bytes) [
      | inl dash ↦
          let on : cond (eqb (length dash.0) 0) (Ok []) (Err (stop_at dash.0)) ≡ Err stop = sym (dash_read dash.0) ∙ ap list_at (sym dash.1) ∙ e in
          elim (cases_Bool (eqb (length dash.0) 0)) [
            | inl none ↦ let is : ◌≡◌ {A = Result (List Entry) Stop} (Ok []) (Err stop) = rw none at on in absurd cc
            | inr more ↦
                let is : ◌≡◌ {A = Result (List Entry) Stop} (Err (stop_at dash.0)) (Err stop) = rw more at on in
                record {
                  front = 45 ∷ [];
                  back = dash.0;
                  parts = dash.1;
                  place = cc;
                  begins = inr ([], [], no_entry_has_text, refl);
                  firm = λ b rest other same.
                      let some : eqb (length (b ∷ other)) 0 ≡ false = ne_eqb (length (b ∷ other)) 0 (λ is. absurd (omega arith)) in
                      dash_read (b ∷ other) ∙ rw some refl;
                }
          ]
      | inr other ↦
          let f = entries_fault bytes stop (sym (list_entries bytes other) ∙ e) in
          record {
            front = f.front;
            back = f.back;
            parts = f.parts;
            place = f.place;
            begins = elim f.begins [ inl none ↦ inl none | inr begun ↦ inr (begun.0, begun.1, full_has_text begun.0 begun.2, begun.3) ];
            firm = λ b rest more is.
                let still : begins_as (codes "-") (f.front ++ b ∷ more) ≡ false =
                same_first (codes "-") f.front b rest more ∙ ap (begins_as (codes "-")) (ap (λ xs. f.front ++ xs) (sym is) ∙ sym f.parts) ∙ other in
                list_entries (f.front ++ b ∷ more) still ∙ f.firm b rest more is;
          }
    ]

-- ---- the fault's place

-- some list's text begins with what stands before the fault
fault_begins : (bytes : List ℕ) (stop : Stop) (f : FaultIn HasText list_text list_at bytes stop) → Begins f.front
unfolding list_text
fault_begins bytes stop f =
    elim f.begins [
      | inl none ↦ ([], list_text [], no_entry_has_text, ap (λ xs. xs ++ list_text []) (sym none))
      | inr begun ↦ (begun.0, begun.1, begun.2, begun.3)
    ]

-- no text has the byte there
no_text_goes_on : (bytes : List ℕ) (stop : Stop) (f : FaultIn HasText list_text list_at bytes stop) (b : ℕ) (rest : List ℕ) → f.back ≡ b ∷ rest
    → ¬ (Begins (f.front ++ b ∷ []))
no_text_goes_on bytes stop f b rest is begins =
    let text : list_text begins.0 ≡ f.front ++ b ∷ begins.1 = begins.3 ∙ append_assoc f.front (b ∷ []) begins.1 in
    let both : ◌≡◌ {A = Result (List Entry) Stop} (Err (stop_at (b ∷ begins.1))) (Ok begins.0) =
    sym (f.firm b rest begins.1 is) ∙ ap list_at (sym text) ∙ list_again begins.0 begins.2 in
    absurd cc

-- the bytes that are left of two places that are one
place_left : {s t : Stop} → s ≡ t → s.left ≡ t.left
place_left e = ap (λ (stop : Stop). stop.left) e

-- the fault is within the text
pub list_left : (text : List ℕ) (stop : Stop) → list_at text ≡ Err stop → stop.left ≤ length text
list_left text stop e =
    let f = list_fault text stop e in
    omega (arith, ap length f.parts, length-append f.front f.back, place_left f.place)

-- the bytes before the fault
take_front : (text front back : List ℕ) (at : ℕ) → text ≡ front ++ back → at ≡ length front → take at text ≡ front
take_front text front back at parts is = rw (parts, is) (take-append_seam front back)

-- the bytes before the fault and the one there
take_one_more : (text front back : List ℕ) (b : ℕ) (rest : List ℕ) (at : ℕ) → text ≡ front ++ back → back ≡ b ∷ rest → at ≡ length front
    → take (at + 1) text ≡ front ++ b ∷ []
take_one_more text front back b rest at parts some is = rw (parts, some, is) (take-append-add front (b ∷ rest) 1)

-- a byte comes first, or none is there
first_or_none : (bytes : List ℕ) → (bytes ≡ []) ⊎ ((b : ℕ) × (rest : List ℕ) × (bytes ≡ b ∷ rest))
first_or_none [] = inl refl
first_or_none (b ∷ rest) = inr (b, rest, refl)

-- the fault is at the first byte that no text has there
pub fault_place : (text : List ℕ) (stop : Stop) → list_at text ≡ Err stop → IsFaultAt text (length text - stop.left)
fault_place text stop e =
    let f = list_fault text stop e in
    let len : length text ≡ length f.front + stop.left = ap length f.parts ∙ length-append f.front f.back ∙ ap (λ n. length f.front + n) (place_left f.place) in
    let at : length text - stop.left ≡ length f.front = omega arith in
    record {
      within = omega arith;
      before = subst Begins (sym (take_front text f.front f.back (length text - stop.left) f.parts at)) (fault_begins text stop f);
      there = λ below begins.
          elim (first_or_none f.back) [
            | inl none ↦ absurd (omega (arith, ap length none, place_left f.place))
            | inr some ↦
                no_text_goes_on text stop f some.0 some.1 some.2
                (subst Begins (take_one_more text f.front f.back some.0 some.1 (length text - stop.left) f.parts some.2 at) begins)
          ];
    }

-- the text of entries is read as these entries
pub read_again : (list : List Entry) → HasText list → read_of (list_text list) ≡ Ok list
unfolding read_of
read_again list has_text = ap (with_place (list_text list)) (list_again list has_text)
