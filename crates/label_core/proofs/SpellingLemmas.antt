-- What is read is spelled so, and what is spelled so is read.
use Rattle.std.proofs.Common.{◌≡◌, ◌⊎◌, ℕ, zero, suc, ◌≤◌, true, cond, eqb, List, [], ◌∷◌, ◌++◌, length, drop, Result, Ok, Err, refl, sym, ap, subst, ◌∙◌, arith, inl, inr, append_assoc, append-nil, length-drop}
use Rattle.std.specs.Prelude.{codes, decimal, flat_map, fold}
use Rattle.std.specs.List.{AllByRecursion}
use Rattle.std.proofs.lemmas.Bool.{eqb-true}
use Rattle.std.proofs.lemmas.List.{nil_from_length}
use Rattle.label_core.specs.declared.element.Element.{Element}
use Rattle.label_core.specs.declared.element.Element.TheVariants.{Low, Equal, High, Grade}
use Rattle.label_core.specs.declared.fault.LabelKind.TheVariants as kind
use Rattle.label_core.specs.declared.fault.Stop.{Stop}
use Rattle.label_core.specs.CompSet.{IsCompartment, with_number}
use Rattle.label_core.specs.Subject.{Parts, is_subject}
use Rattle.label_core.specs.Reading.{◌>>=◌, stop_at, begins, goes_on, after_literal, after_word, number_at, compartments_at, grade_at, body_at, element_at, range_at, whole_element, whole_parts, whole_subject, subject_or_fault}
use Rattle.label_core.specs.Grammar.{Writing, word_low, word_lo, word_equal, word_eq, word_high, word_hi, grade_alone, grade_with_set, IsWriting, spelled_element, meant_element, active_alone, with_range, SpellsElement, SpellsParts}
use Rattle.label_core.proofs.NumberLemmas.{TakesNumber, number_takes}
use Rattle.label_core.proofs.StepLemmas.{bind_ok, choice_cases, ok_of, ok_is, err_not_ok}
use Rattle.label_core.proofs.CompartmentLemmas.{compartments_left, compartments_left_step, compartments_at_left}

-- the byte that is next, and those behind it
pub begins_cons : (b : ℕ) (bytes : List ℕ) → begins b bytes ≡ true → bytes ≡ b ∷ drop 1 bytes
begins_cons b [] is = absurd cc
begins_cons b (c ∷ bytes) is = ap (λ k. k ∷ bytes) (eqb-true c b is)

-- what follows a literal follows it
pub literal_takes : (literal bytes rest : List ℕ) → after_literal literal bytes ≡ Ok rest → bytes ≡ literal ++ rest
literal_takes [] bytes rest e = ok_is bytes rest e
literal_takes (l ∷ ls) [] rest e = err_not_ok _ rest e
literal_takes (l ∷ ls) (b ∷ bytes) rest e = elim (choice_cases (eqb b l) _ _ (ok_of rest) e) [
  | inl same ↦ rw (eqb-true b l same.0, literal_takes ls bytes rest same.1) refl
  | inr other ↦ err_not_ok _ rest other.1
]

-- a word is its short form, or that and its ending
pub word_takes : (short ending bytes rest : List ℕ) → after_word short ending bytes ≡ Ok rest → (bytes ≡ short ++ rest) ⊎ (bytes ≡ (short ++ ending) ++ rest)
unfolding after_word
word_takes short ending bytes rest e =
    let a = bind_ok (after_literal short bytes) (λ rest. cond (goes_on ending rest) (after_literal ending rest) (Ok rest)) rest e in
    let first = literal_takes short bytes a.0 a.1 in
    elim (choice_cases (goes_on ending a.0) (after_literal ending a.0) (Ok a.0) (ok_of rest) a.2) [
      | inl long ↦ inr (first ∙ ap (λ (t : List ℕ). short ++ t) (literal_takes ending a.0 rest long.1) ∙ sym (append_assoc short ending rest))
      | inr brief ↦ inl (first ∙ ap (λ (t : List ℕ). short ++ t) (ok_is a.0 rest brief.1))
    ]

-- further compartments, each behind a plus sign
abbrev pub plus : ℕ → List ℕ
plus n = codes "+" ++ decimal n

-- the compartments at the front of the bytes, put into a set, and the bytes after them
pub record TakesList (set bytes : List ℕ) (x : List ℕ × List ℕ) : Type 0 where
  pub first : ℕ
  pub more : List ℕ
  pub are : AllByRecursion IsCompartment (first ∷ more)
  pub parts : bytes ≡ (decimal first ++ flat_map plus more) ++ x.1
  pub value : fold (λ set n. with_number n set) set (first ∷ more) ≡ x.0

TakesList-last : (set bytes rest : List ℕ) (n : ℕ) → IsCompartment n → bytes ≡ decimal n ++ rest → TakesList set bytes (with_number n set, rest)
TakesList-last set bytes rest n is parts = record {
  first = n;
  more = [];
  are = (is, tt);
  parts = parts ∙ ap (λ (t : List ℕ). t ++ rest) (sym (append-nil (decimal n)));
  value = refl;
}

-- a compartment, and a plus sign behind it
TakesList-more : (set bytes rest : List ℕ) (n : ℕ) (x : List ℕ × List ℕ) → IsCompartment n → bytes ≡ decimal n ++ 43 ∷ rest
    → TakesList (with_number n set) rest x → TakesList set bytes x
TakesList-more set bytes rest n x is parts others = record {
  first = n;
  more = others.first ∷ others.more;
  are = (is, others.are);
  parts =
      parts ∙ ap (λ (t : List ℕ). decimal n ++ 43 ∷ t) others.parts
      ∙ sym (append_assoc (decimal n) (43 ∷ (decimal others.first ++ flat_map plus others.more)) x.1);
  value = others.value;
}

pub list_takes : (k : ℕ) (set bytes : List ℕ) (x : List ℕ × List ℕ) → length bytes ≤ k → compartments_left set bytes ≡ Ok x → TakesList set bytes x
list_takes zero set bytes x fits e =
    let a =
    bind_ok (number_at kind.Compartment 1 256 bytes)
    (λ n. cond (begins 43 n.1) (compartments_left (with_number n.0 set) (drop 1 n.1)) (Ok (with_number n.0 set, n.1))) x
    (sym (compartments_left_step set bytes) ∙ e) in
    absurd (omega (arith, (number_takes kind.Compartment 1 256 bytes a.0 (omega arith) (omega arith) a.1).shorter))
list_takes (suc k) set bytes x fits e =
    let a =
    bind_ok (number_at kind.Compartment 1 256 bytes)
    (λ n. cond (begins 43 n.1) (compartments_left (with_number n.0 set) (drop 1 n.1)) (Ok (with_number n.0 set, n.1))) x
    (sym (compartments_left_step set bytes) ∙ e) in
    let n = a.0 in
    let t = number_takes kind.Compartment 1 256 bytes n (omega arith) (omega arith) a.1 in
    elim (choice_cases (begins 43 n.1) (compartments_left (with_number n.0 set) (drop 1 n.1)) (Ok (with_number n.0 set, n.1)) (ok_of x) a.2) [
      | inl more ↦
          TakesList-more set bytes (drop 1 n.1) n.0 x (t.from, t.to) (t.parts ∙ ap (λ (r : List ℕ). decimal n.0 ++ r) (begins_cons 43 n.1 more.0))
          (list_takes k (with_number n.0 set) (drop 1 n.1) x (omega (arith, t.shorter, length-drop 1 n.1)) more.1)
      | inr last ↦ rw (← ok_is (with_number n.0 set, n.1) x last.1) (TakesList-last set bytes n.1 n.0 (t.from, t.to) t.parts)
    ]

pub regrouped : (grade first more rest : List ℕ) → grade ++ 58 ∷ ((first ++ more) ++ rest) ≡ (grade ++ codes ":" ++ first ++ more) ++ rest
regrouped grade first more rest = simp append_assoc

-- the front of the bytes is spelled so, and the rest follows
pub record TakesElement (bytes : List ℕ) (x : Element × List ℕ) : Type 0 where
  pub writing : Writing
  pub valid : IsWriting writing
  pub parts : bytes ≡ spelled_element writing ++ x.1
  pub meaning : meant_element writing ≡ x.0

-- a grade alone
takes_plain : (bytes : List ℕ) (n : ℕ × List ℕ) → TakesNumber 0 65535 bytes n → TakesElement bytes (Grade n.0 [], n.1)
takes_plain bytes n t = record { writing = grade_alone n.0; valid = t.to; parts = t.parts; meaning = refl }

-- a grade, a colon and compartments
takes_listed : (bytes rest : List ℕ) (n : ℕ × List ℕ) (set : List ℕ × List ℕ) → TakesNumber 0 65535 bytes n → n.1 ≡ 58 ∷ rest → TakesList [] rest set
    → TakesElement bytes (Grade n.0 set.0, set.1)
takes_listed bytes rest n set t colon list = record {
  writing = grade_with_set n.0 list.first list.more;
  valid = (t.to, list.are);
  parts =
      t.parts ∙ ap (λ (r : List ℕ). decimal n.0 ++ r) (colon ∙ ap (λ (r : List ℕ). 58 ∷ r) list.parts)
      ∙ regrouped (decimal n.0) (decimal list.first) (flat_map plus list.more) set.1;
  meaning = ap (λ (set : List ℕ). Grade n.0 set) list.value;
}

listed_takes : (bytes : List ℕ) (n : ℕ × List ℕ) (x : Element × List ℕ) → TakesNumber 0 65535 bytes n → begins 58 n.1 ≡ true
    → (compartments_at (drop 1 n.1) >>= λ set. Ok (Grade n.0 set.0, set.1)) ≡ Ok x → TakesElement bytes x
listed_takes bytes n x t colon e =
    let b = bind_ok (compartments_at (drop 1 n.1)) (λ set. Ok (Grade n.0 set.0, set.1)) x e in
    let list = list_takes (length (drop 1 n.1)) [] (drop 1 n.1) b.0 (omega arith) (sym (compartments_at_left (drop 1 n.1)) ∙ b.1) in
    rw (← ok_is (Grade n.0 b.0.0, b.0.1) x b.2) (takes_listed bytes (drop 1 n.1) n b.0 t (begins_cons 58 n.1 colon) list)

pub grade_takes : (bytes : List ℕ) (x : Element × List ℕ) → grade_at bytes ≡ Ok x → TakesElement bytes x
unfolding grade_at
grade_takes bytes x e =
    let a =
    bind_ok (number_at kind.Grade 0 65535 bytes)
    (λ n. cond (begins 58 n.1) (compartments_at (drop 1 n.1) >>= λ set. Ok (Grade n.0 set.0, set.1)) (Ok (Grade n.0 [], n.1))) x e in
    let t = number_takes kind.Grade 0 65535 bytes a.0 (omega arith) (omega arith) a.1 in
    elim (choice_cases (begins 58 a.0.1) (compartments_at (drop 1 a.0.1) >>= λ set. Ok (Grade a.0.0 set.0, set.1)) (Ok (Grade a.0.0 [], a.0.1)) (ok_of x) a.2) [
      | inl colon ↦ listed_takes bytes a.0 x t colon.0 colon.1
      | inr none ↦ rw (← ok_is (Grade a.0.0 [], a.0.1) x none.1) (takes_plain bytes a.0 t)
    ]

word_is : (short ending : List ℕ) (brief long : Writing) (e : Element) (bytes : List ℕ) (x : Element × List ℕ) → spelled_element brief ≡ short
    → spelled_element long ≡ short ++ ending → meant_element brief ≡ e → meant_element long ≡ e → IsWriting brief → IsWriting long
    → (after_word short ending bytes >>= λ rest. Ok (e, rest)) ≡ Ok x → TakesElement bytes x
word_is short ending brief long e bytes x brief_text long_text brief_means long_means brief_valid long_valid given =
    let a = bind_ok (after_word short ending bytes) (λ rest. Ok (e, rest)) x given in
    rw (← ok_is (e, a.0) x a.2) (elim (word_takes short ending bytes a.0 a.1) [
      | inl parts ↦ record { writing = brief; valid = brief_valid; parts = parts ∙ ap (λ (t : List ℕ). t ++ a.0) (sym brief_text); meaning = brief_means }
      | inr parts ↦ record { writing = long; valid = long_valid; parts = parts ∙ ap (λ (t : List ℕ). t ++ a.0) (sym long_text); meaning = long_means }
    ])

pub body_takes : (bytes : List ℕ) (x : Element × List ℕ) → body_at bytes ≡ Ok x → TakesElement bytes x
unfolding body_at
body_takes bytes x e = elim (choice_cases (begins 108 bytes) _ _ (ok_of x) e) [
  | inl low ↦ word_is (codes "lo") (codes "w") word_lo word_low Low bytes x refl refl refl refl tt tt low.1
  | inr e ↦ elim (choice_cases (begins 101 bytes) _ _ (ok_of x) e.1) [
    | inl equal ↦ word_is (codes "eq") (codes "ual") word_eq word_equal Equal bytes x refl refl refl refl tt tt equal.1
    | inr e ↦ elim (choice_cases (begins 104 bytes) _ _ (ok_of x) e.1) [
      | inl high ↦ word_is (codes "hi") (codes "gh") word_hi word_high High bytes x refl refl refl refl tt tt high.1
      | inr e ↦ grade_takes bytes x e.1
    ]
  ]
]

-- an element's text, and what follows it
pub element_takes : (text : List ℕ) (x : Element × List ℕ) → element_at text ≡ Ok x → (rest : List ℕ) × (text ≡ codes "mls/" ++ rest) × TakesElement rest x
unfolding element_at
element_takes text x e =
    let a = bind_ok (after_literal (codes "mls/") text) body_at x e in
    (a.0, literal_takes (codes "mls/") text a.0 a.1, body_takes a.0 x a.2)

pub whole_element_takes : (text : List ℕ) (e : Element) → whole_element text ≡ Ok e → SpellsElement text e
unfolding whole_element
whole_element_takes text e given =
    let a = bind_ok (element_at text) (λ x. cond (eqb (length x.1) 0) (Ok x.0) (Err (stop_at kind.Form x.1))) e given in
    let t = element_takes text a.0 a.1 in
    elim (choice_cases (eqb (length a.0.1) 0) (Ok a.0.0) (Err (stop_at kind.Form a.0.1)) (ok_of e) a.2) [
      | inl whole ↦
          let nil : a.0.1 ≡ [] = nil_from_length a.0.1 (eqb-true (length a.0.1) 0 whole.0) in
          record {
            writing = t.2.writing;
            valid = t.2.valid;
            spelling =
                t.1
                ∙ ap (λ (r : List ℕ). codes "mls/" ++ r)
                (t.2.parts ∙ ap (λ (r : List ℕ). spelled_element t.2.writing ++ r) nil ∙ append-nil (spelled_element t.2.writing));
            meaning = t.2.meaning ∙ ok_is a.0.0 e whole.1;
          }
      | inr more ↦ err_not_ok _ e more.1
    ]

-- a range in brackets, or none
pub record TakesRange (active : Element) (bytes : List ℕ) (x : (Element × Element) × List ℕ) : Type 0 where
  pub low : Writing
  pub high : Writing
  pub valid : IsWriting low × IsWriting high
  pub parts : bytes ≡ (codes "(" ++ spelled_element low ++ codes "-" ++ spelled_element high ++ codes ")") ++ x.1
  pub meaning : (meant_element low ≡ x.0.0) × (meant_element high ≡ x.0.1)

ranged_parts : (low high rest : List ℕ) → 40 ∷ (low ++ 45 ∷ (high ++ 41 ∷ rest)) ≡ (codes "(" ++ low ++ codes "-" ++ high ++ codes ")") ++ rest
ranged_parts low high rest = simp append_assoc

-- two elements with a dash between them, in brackets
takes_range : (active : Element) (bytes inner rest end : List ℕ) (low high : Element × List ℕ) → bytes ≡ 40 ∷ inner → TakesElement inner low → low.1 ≡ 45 ∷ rest
    → TakesElement rest high → high.1 ≡ 41 ∷ end → TakesRange active bytes ((low.0, high.0), end)
takes_range active bytes inner rest end low high first l dash h last = record {
  low = l.writing;
  high = h.writing;
  valid = (l.valid, h.valid);
  parts =
      first
      ∙ ap (λ (t : List ℕ). 40 ∷ t)
      (l.parts
      ∙ ap (λ (t : List ℕ). spelled_element l.writing ++ t)
      (dash ∙ ap (λ (t : List ℕ). 45 ∷ t) (h.parts ∙ ap (λ (t : List ℕ). spelled_element h.writing ++ t) last)))
      ∙ ranged_parts (spelled_element l.writing) (spelled_element h.writing) end;
  meaning = (l.meaning, h.meaning);
}

-- what reading does behind the opening bracket
abbrev range_tail : Element → List ℕ → Result ((Element × Element) × List ℕ) Stop
range_tail low rest = after_literal (codes "-") rest >>= λ rest. body_at rest >>= λ high. after_literal (codes ")") high.1 >>= λ end. Ok ((low, high.0), end)

range_tail_takes : (active : Element) (bytes inner : List ℕ) (low : Element × List ℕ) (x : (Element × Element) × List ℕ) → bytes ≡ 40 ∷ inner
    → TakesElement inner low → range_tail low.0 low.1 ≡ Ok x → TakesRange active bytes x
range_tail_takes active bytes inner low x first l e =
    let b =
    bind_ok (after_literal (codes "-") low.1) (λ rest. body_at rest >>= λ high. after_literal (codes ")") high.1 >>= λ end. Ok ((low.0, high.0), end)) x e in
    let c = bind_ok (body_at b.0) (λ high. after_literal (codes ")") high.1 >>= λ end. Ok ((low.0, high.0), end)) x b.2 in
    let d = bind_ok (after_literal (codes ")") c.0.1) (λ end. Ok ((low.0, c.0.0), end)) x c.2 in
    rw (← ok_is ((low.0, c.0.0), d.0) x d.2)
    (takes_range active bytes inner b.0 d.0 low c.0 first l (literal_takes (codes "-") low.1 b.0 b.1) (body_takes b.0 c.0 c.1) (literal_takes (codes ")") c.0.1
    d.0 d.1))

range_takes : (active : Element) (bytes : List ℕ) (x : (Element × Element) × List ℕ) → range_at active bytes ≡ Ok x
    → (◌≡◌ {A = (Element × Element) × List ℕ} ((active, active), bytes) x) ⊎ TakesRange active bytes x
unfolding range_at
range_takes active bytes x e = elim (choice_cases (begins 40 bytes) _ (Ok ((active, active), bytes)) (ok_of x) e) [
  | inl some ↦
      let a = bind_ok (body_at (drop 1 bytes)) (λ low. range_tail low.0 low.1) x some.1 in
      inr (range_tail_takes active bytes (drop 1 bytes) a.0 x (begins_cons 40 bytes some.0) (body_takes (drop 1 bytes) a.0 a.1) a.2)
  | inr none ↦ inl (ok_is ((active, active), bytes) x none.1)
]

ranged_text : (active low high : List ℕ)
    → codes "mls/" ++ (active ++ ((codes "(" ++ low ++ codes "-" ++ high ++ codes ")") ++ []))
    ≡ codes "mls/" ++ active ++ codes "(" ++ low ++ codes "-" ++ high ++ codes ")"
ranged_text active low high = simp (append-nil, append_assoc)

parts_spelled : (text rest : List ℕ) (active : Element × List ℕ) (range : (Element × Element) × List ℕ) → text ≡ codes "mls/" ++ rest → TakesElement rest active
    → (◌≡◌ {A = (Element × Element) × List ℕ} ((active.0, active.0), active.1) range) ⊎ TakesRange active.0 active.1 range → range.1 ≡ []
    → SpellsParts text (record { active = active.0; low = range.0.0; high = range.0.1 })
parts_spelled text rest active range front takes (inl same) nil =
    subst (λ (r : (Element × Element) × List ℕ). r.1 ≡ [] → SpellsParts text (record { active = active.0; low = r.0.0; high = r.0.1 })) same
    (λ none. record {
      writing = active_alone takes.writing;
      valid = takes.valid;
      spelling =
          front
          ∙ ap (λ (t : List ℕ). codes "mls/" ++ t)
          (takes.parts ∙ ap (λ (t : List ℕ). spelled_element takes.writing ++ t) none ∙ append-nil (spelled_element takes.writing));
      meaning = ap (λ (e : Element). record { active = e; low = e; high = e }) takes.meaning;
    }) nil
parts_spelled text rest active range front takes (inr ends) nil = record {
  writing = with_range takes.writing ends.low ends.high;
  valid = (takes.valid, ends.valid.0, ends.valid.1);
  spelling =
      front
      ∙ ap (λ (t : List ℕ). codes "mls/" ++ t)
      (takes.parts
      ∙ ap (λ (t : List ℕ). spelled_element takes.writing ++ t)
      (ends.parts ∙ ap (λ (t : List ℕ). (codes "(" ++ spelled_element ends.low ++ codes "-" ++ spelled_element ends.high ++ codes ")") ++ t) nil))
      ∙ ranged_text (spelled_element takes.writing) (spelled_element ends.low) (spelled_element ends.high);
  meaning = rw (takes.meaning, ends.meaning.0, ends.meaning.1) refl;
}

pub whole_parts_take : (text : List ℕ) (parts : Parts) → whole_parts text ≡ Ok parts → SpellsParts text parts
unfolding whole_parts
whole_parts_take text parts given =
    let a =
    bind_ok (element_at text)
    (λ active. range_at active.0 active.1 >>= λ range. cond (eqb (length range.1) 0) (Ok (record { active = active.0; low = range.0.0; high = range.0.1 }))
    (Err (stop_at kind.Form range.1)))
    parts given in
    let active = element_takes text a.0 a.1 in
    let r =
    bind_ok (range_at a.0.0 a.0.1)
    (λ range. cond (eqb (length range.1) 0) (Ok (record { active = a.0.0; low = range.0.0; high = range.0.1 })) (Err (stop_at kind.Form range.1))) parts a.2 in
    let made : Parts = record { active = a.0.0; low = r.0.0.0; high = r.0.0.1 } in
    elim (choice_cases (eqb (length r.0.1) 0) (Ok made) (Err (stop_at kind.Form r.0.1)) (ok_of parts) r.2) [
      | inl whole ↦
          let nil : r.0.1 ≡ [] = nil_from_length r.0.1 (eqb-true (length r.0.1) 0 whole.0) in
          rw (← ok_is made parts whole.1) (parts_spelled text active.0 a.0 r.0 active.1 active.2 (range_takes a.0.0 a.0.1 r.0 r.1) nil)
      | inr more ↦ err_not_ok _ parts more.1
    ]

pub whole_subject_takes : (text : List ℕ) (parts : Parts) → whole_subject text ≡ Ok parts → SpellsParts text parts × (is_subject parts ≡ true)
unfolding whole_subject
whole_subject_takes text parts given =
    let a = bind_ok (whole_parts text) subject_or_fault parts given in
    elim (choice_cases (is_subject a.0) (Ok a.0) (Err (stop_at kind.Range [])) (ok_of parts) a.2) [
      | inl is ↦ rw (← ok_is a.0 parts is.1) (whole_parts_take text a.0 a.1, is.0)
      | inr not ↦ err_not_ok _ parts not.1
    ]
