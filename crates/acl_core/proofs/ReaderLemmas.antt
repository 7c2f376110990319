-- Readers of texts: what they find is spelled so, what is spelled so they find, and where they stop no text goes on.
use Rattle.std.proofs.Common.{◌≡◌, ℕ, ◌⊎◌, inl, inr, true, false, cond, eqb, List, [], ◌∷◌, ◌++◌, Result, Ok, Err, refl, sym, ap, subst, ◌∙◌, append_assoc, append-nil}
use Rattle.std.proofs.lemmas.Bool.{cases_Bool, eqb-true, eq-eqb}
use Rattle.acl_core.specs.declared.fault.Stop.{Stop}
use Rattle.acl_core.specs.Reading.{◌>>=◌, byte_at, word_at, begins_as, stop_at}

-- Reading stops with so many bytes left: some text begins with what stands before them, if anything does, and
-- whatever follows the byte there, reading stops there.
pub record FaultIn {A R : Type 0} (V : A → Type 0) (t : A → List ℕ) (p : List ℕ → Result R Stop) (bytes : List ℕ) (stop : Stop) : Type 0 where
  pub front : List ℕ
  pub back : List ℕ
  pub parts : bytes ≡ front ++ back
  pub place : stop_at back ≡ stop
  pub begins : (front ≡ []) ⊎ ((a : A) × (more : List ℕ) × V a × (t a ≡ front ++ more))
  pub firm : (b : ℕ) (rest other : List ℕ) → back ≡ b ∷ rest → p (front ++ b ∷ other) ≡ Err (stop_at (b ∷ other))

-- p reads the texts t of the values V, whatever follows
pub record Reads {A : Type 0} (V : A → Type 0) (t : A → List ℕ) (p : List ℕ → Result (A × List ℕ) Stop) : Type 0 where
  pub takes : (bytes : List ℕ) (a : A) (rest : List ℕ) → p bytes ≡ Ok (a, rest) → (bytes ≡ t a ++ rest) × V a
  pub again : (a : A) (rest : List ℕ) → V a → p (t a ++ rest) ≡ Ok (a, rest)
  pub fault : (bytes : List ℕ) (stop : Stop) → p bytes ≡ Err stop → FaultIn V t p bytes stop

-- p reads a word
pub record ReadsWord (word : List ℕ) (p : List ℕ → Result (List ℕ) Stop) : Type 0 where
  pub takes : (bytes rest : List ℕ) → p bytes ≡ Ok rest → bytes ≡ word ++ rest
  pub again : (rest : List ℕ) → p (word ++ rest) ≡ Ok rest
  pub fault : (bytes : List ℕ) (stop : Stop) → p bytes ≡ Err stop → FaultIn {A = Unit {0}} (λ _. Unit {0}) (λ _. word) p bytes stop

-- p reads the whole texts t of the values V
pub record ReadsAll {A : Type 0} (V : A → Type 0) (t : A → List ℕ) (p : List ℕ → Result A Stop) : Type 0 where
  pub takes : (bytes : List ℕ) (a : A) → p bytes ≡ Ok a → (bytes ≡ t a) × V a
  pub again : (a : A) → V a → p (t a) ≡ Ok a
  pub fault : (bytes : List ℕ) (stop : Stop) → p bytes ≡ Err stop → FaultIn V t p bytes stop

-- where both steps read something
pub bind_ok : {A B : Type 0} (r : Result A Stop) (f : A → Result B Stop) (y : B) → (r >>= f) ≡ Ok y → (x : A) × (r ≡ Ok x) × (f x ≡ Ok y)
bind_ok (Ok x) f y e = (x, refl, e)
bind_ok (Err n) f y e = absurd cc

-- where one of two steps has a fault
pub bind_err : {A B : Type 0} (r : Result A Stop) (f : A → Result B Stop) (n : Stop) → (r >>= f) ≡ Err n → (r ≡ Err n) ⊎ ((x : A) × (r ≡ Ok x) × (f x ≡ Err n))
bind_err (Ok x) f n e = inr (x, refl, e)
bind_err (Err m) f n e = let same : m ≡ n = cc in inl (ap (λ (stop : Stop). Err stop) same)

-- one reader after another
module _ {A B : Type 0} (V : A → Type 0) (t : A → List ℕ) (p : List ℕ → Result (A × List ℕ) Stop)
    (W : A → B → Type 0) (u : A → B → List ℕ) (q : A → List ℕ → Result (B × List ℕ) Stop)
    (VB : B → Type 0) (tB : B → List ℕ)
    (first : Reads V t p) (second : (a : A) → V a → Reads (W a) (u a) (q a))
    (joined : (a : A) (b : B) → V a → W a b → VB b × (tB b ≡ t a ++ u a b))
    (parted : (b : B) → VB b → (a : A) × V a × W a b)
    (some : (a : A) → V a → (b : B) × W a b) where
  -- one reader and then the other
  abbrev pub both : List ℕ → Result (B × List ℕ) Stop
  both bytes = p bytes >>= λ x. q x.0 x.1

  -- what is read is spelled so
  both_found : (bytes : List ℕ) (b : B) (rest : List ℕ) → both bytes ≡ Ok (b, rest) → (bytes ≡ tB b ++ rest) × VB b
  both_found bytes b rest e =
      let s = bind_ok (p bytes) (λ x. q x.0 x.1) (b, rest) e in
      let f = first.takes bytes s.0.0 s.0.1 s.1 in
      let g = (second s.0.0 f.1).takes s.0.1 b rest s.2 in
      let j = joined s.0.0 b f.1 g.1 in
      (f.0 ∙ ap (λ xs. t s.0.0 ++ xs) g.0 ∙ sym (append_assoc (t s.0.0) (u s.0.0 b) rest) ∙ ap (λ xs. xs ++ rest) (sym j.1), j.0)

  -- what is spelled so is read
  both_again : (b : B) (rest : List ℕ) → VB b → both (tB b ++ rest) ≡ Ok (b, rest)
  both_again b rest v =
      let s = parted b v in
      let j = joined s.0 b s.1 s.2 in
      let e : tB b ++ rest ≡ t s.0 ++ (u s.0 b ++ rest) = ap (λ xs. xs ++ rest) j.1 ∙ append_assoc (t s.0) (u s.0 b) rest in
      ap both e ∙ rw (first.again s.0 (u s.0 b ++ rest) s.1) ((second s.0 s.1).again b rest s.2)

  -- where the two have a fault
  both_fault : (bytes : List ℕ) (stop : Stop) → both bytes ≡ Err stop → FaultIn VB tB both bytes stop
  both_fault bytes stop e =
      elim (bind_err (p bytes) (λ x. q x.0 x.1) stop e) [
        | inl stops ↦
            let f = first.fault bytes stop stops in
            record {
              front = f.front;
              back = f.back;
              parts = f.parts;
              place = f.place;
              begins = elim f.begins [
                | inl none ↦ inl none
                | inr begun ↦
                    let b = some begun.0 begun.2 in
                    let j = joined begun.0 b.0 begun.2 b.1 in
                    inr (b.0, begun.1 ++ u begun.0 b.0, j.0, j.1 ∙ ap (λ xs. xs ++ u begun.0 b.0) begun.3 ∙ append_assoc f.front begun.1 (u begun.0 b.0))
              ];
              firm = λ b rest other is. ap (λ r. r >>= λ x. q x.0 x.1) (f.firm b rest other is);
            }
        | inr goes ↦
            let a = goes.0.0 in
            let f = first.takes bytes a goes.0.1 goes.1 in
            let g = (second a f.1).fault goes.0.1 stop goes.2 in
            record {
              front = t a ++ g.front;
              back = g.back;
              parts = f.0 ∙ ap (λ xs. t a ++ xs) g.parts ∙ sym (append_assoc (t a) g.front g.back);
              place = g.place;
              begins = elim g.begins [
                | inl none ↦
                    let b = some a f.1 in
                    let j = joined a b.0 f.1 b.1 in
                    inr (b.0, u a b.0, j.0, j.1 ∙ ap (λ xs. xs ++ u a b.0) (sym (append-nil (t a)) ∙ ap (λ xs. t a ++ xs) (sym none)))
                | inr begun ↦
                    let j = joined a begun.0 f.1 begun.2 in
                    inr (begun.0, begun.1, j.0, j.1 ∙ ap (λ xs. t a ++ xs) begun.3 ∙ sym (append_assoc (t a) g.front begun.1))
              ];
              firm = λ b rest other is.
                  ap both (append_assoc (t a) g.front (b ∷ other)) ∙ rw (first.again a (g.front ++ b ∷ other) f.1) (g.firm b rest other is);
            }
      ]

  -- the reader of both
  pub both_reads : Reads VB tB both
  both_reads = record { takes = both_found; again = both_again; fault = both_fault }

-- a value and nothing more
pub done_reads : {B : Type 0} (b : B) → Reads (λ (c : B). c ≡ b) (λ _. []) (λ (bytes : List ℕ). Ok (b, bytes))
done_reads {B} b = record {
  takes = λ bytes c rest e.
      let same : ◌≡◌ {A = B × List ℕ} (b, bytes) (c, rest) = cc in
      (ap (λ (x : B × List ℕ). x.1) same, sym (ap (λ (x : B × List ℕ). x.0) same));
  again = λ c rest is. ap (λ (d : B). Ok (d, rest)) (sym is);
  fault = λ bytes stop e. absurd cc;
}

-- a word, and then a reader
module _ {B : Type 0} (word : List ℕ) (p : List ℕ → Result (List ℕ) Stop)
    (u : B → List ℕ) (q : List ℕ → Result (B × List ℕ) Stop) (V : B → Type 0) (t : B → List ℕ)
    (first : ReadsWord word p) (second : Reads V u q)
    (joined : (b : B) → V b → t b ≡ word ++ u b)
    (some : (b : B) × V b) where
  -- a word and then a value
  abbrev pub word_then : List ℕ → Result (B × List ℕ) Stop
  word_then bytes = p bytes >>= q

  -- what is read is spelled so
  word_then_found : (bytes : List ℕ) (b : B) (rest : List ℕ) → word_then bytes ≡ Ok (b, rest) → (bytes ≡ t b ++ rest) × V b
  word_then_found bytes b rest e =
      let s = bind_ok (p bytes) q (b, rest) e in
      let g = second.takes s.0 b rest s.2 in
      (first.takes bytes s.0 s.1 ∙ ap (λ xs. word ++ xs) g.0 ∙ sym (append_assoc word (u b) rest) ∙ ap (λ xs. xs ++ rest) (sym (joined b g.1)), g.1)

  -- what is spelled so is read
  word_then_again : (b : B) (rest : List ℕ) → V b → word_then (t b ++ rest) ≡ Ok (b, rest)
  word_then_again b rest v =
      let e : t b ++ rest ≡ word ++ (u b ++ rest) = ap (λ xs. xs ++ rest) (joined b v) ∙ append_assoc word (u b) rest in
      ap word_then e ∙ rw (first.again (u b ++ rest)) (second.again b rest v)

  -- where the two have a fault
  word_then_fault : (bytes : List ℕ) (stop : Stop) → word_then bytes ≡ Err stop → FaultIn V t word_then bytes stop
  word_then_fault bytes stop e =
      elim (bind_err (p bytes) q stop e) [
        | inl stops ↦
            let f = first.fault bytes stop stops in
            record {
              front = f.front;
              back = f.back;
              parts = f.parts;
              place = f.place;
              begins = elim f.begins [
                | inl none ↦ inl none
                | inr begun ↦
                    inr
                    (some.0, begun.1 ++ u some.0, some.1, joined some.0 some.1 ∙ ap (λ xs. xs ++ u some.0) begun.3 ∙ append_assoc f.front begun.1 (u some.0))
              ];
              firm = λ b rest other is. ap (λ r. r >>= q) (f.firm b rest other is);
            }
        | inr goes ↦
            let g = second.fault goes.0 stop goes.2 in
            record {
              front = word ++ g.front;
              back = g.back;
              parts = first.takes bytes goes.0 goes.1 ∙ ap (λ xs. word ++ xs) g.parts ∙ sym (append_assoc word g.front g.back);
              place = g.place;
              begins = elim g.begins [
                | inl none ↦
                    inr (some.0, u some.0, some.1, joined some.0 some.1 ∙ ap (λ xs. xs ++ u some.0) (sym (append-nil word) ∙ ap (λ xs. word ++ xs) (sym none)))
                | inr begun ↦ inr (begun.0, begun.1, begun.2, joined begun.0 begun.2 ∙ ap (λ xs. word ++ xs) begun.3 ∙ sym (append_assoc word g.front begun.1))
              ];
              firm = λ b rest other is.
                  ap word_then (append_assoc word g.front (b ∷ other)) ∙ rw (first.again (g.front ++ b ∷ other)) (g.firm b rest other is);
            }
      ]

  -- the reader of both
  pub word_then_reads : Reads V t word_then
  word_then_reads = record { takes = word_then_found; again = word_then_again; fault = word_then_fault }

-- ---- words

-- a byte that is read is there
pub byte_found : (b : ℕ) (bytes rest : List ℕ) → byte_at b bytes ≡ Ok rest → bytes ≡ b ∷ rest
byte_found b [] rest e = absurd cc
byte_found b (c ∷ bytes) rest e =
    elim (cases_Bool (eqb c b)) [
      | inl same ↦ let is : Ok bytes ≡ Ok rest = rw same at e in let tail : bytes ≡ rest = cc in let head = eqb-true c b same in λ i. head i ∷ tail i
      | inr other ↦ let is : Err (stop_at (c ∷ bytes)) ≡ Ok rest = rw other at e in absurd cc
    ]

-- a byte that is there is read
pub byte_again : (b : ℕ) (rest : List ℕ) → byte_at b (b ∷ rest) ≡ Ok rest
byte_again b rest = rw (eq-eqb b b refl) refl

-- another byte is a fault
pub byte_differs : (b c : ℕ) (rest : List ℕ) → eqb c b ≡ false → byte_at b (c ∷ rest) ≡ Err (stop_at (c ∷ rest))
byte_differs b c rest other = rw other refl

-- where a byte is missing it differs, or nothing is left
pub byte_missing : (b : ℕ) (bytes : List ℕ) (stop : Stop) → byte_at b bytes ≡ Err stop
    → (stop_at bytes ≡ stop) × ((c : ℕ) (rest : List ℕ) → bytes ≡ c ∷ rest → eqb c b ≡ false)
byte_missing b [] stop e = (cc, λ c rest is. absurd cc)
byte_missing b (c ∷ bytes) stop e =
    elim (cases_Bool (eqb c b)) [
      | inl same ↦ let is : Ok bytes ≡ Err stop = rw same at e in absurd cc
      | inr other ↦
          let is : ◌≡◌ {A = Result (List ℕ) Stop} (Err (stop_at (c ∷ bytes))) (Err stop) = rw other at e in
          (cc, λ d rest eq. let head : d ≡ c = cc in subst (λ (x : ℕ). eqb x b ≡ false) (sym head) other)
    ]

-- where a byte has its fault
byte_fault : (b : ℕ) (bytes : List ℕ) (stop : Stop) → byte_at b bytes ≡ Err stop → FaultIn {A = Unit {0}} (λ _. Unit {0}) (λ _. b ∷ []) (byte_at b) bytes stop
byte_fault b bytes stop e =
    let m = byte_missing b bytes stop e in
    record {
      front = [];
      back = bytes;
      parts = refl;
      place = m.0;
      begins = inl refl;
      firm = λ c rest other is. byte_differs b c other (m.1 c rest is);
    }

-- the reader of a byte
pub byte_reads : (b : ℕ) → ReadsWord (b ∷ []) (byte_at b)
byte_reads b = record { takes = byte_found b; again = byte_again b; fault = byte_fault b }

-- the reader of no byte
nothing_reads : ReadsWord [] (λ (bytes : List ℕ). Ok bytes)
nothing_reads = record {
  takes = λ bytes rest e. cc;
  again = λ rest. refl;
  fault = λ bytes stop e. absurd cc;
}

-- a byte, and then a word
byte_then : (b : ℕ) (word : List ℕ) → ReadsWord word (word_at word) → ReadsWord (b ∷ word) (word_at (b ∷ word))
byte_then b word rest_reads = record {
  takes = λ bytes rest e.
      let s = bind_ok (byte_at b bytes) (word_at word) rest e in
      byte_found b bytes s.0 s.1 ∙ ap (λ xs. b ∷ xs) (rest_reads.takes s.0 rest s.2);
  again = λ rest. rw (byte_again b (word ++ rest)) (rest_reads.again rest);
  fault = λ bytes stop e.
      elim (bind_err (byte_at b bytes) (word_at word) stop e) [
        | inl stops ↦
            let f = byte_fault b bytes stop stops in
            record {
              front = f.front;
              back = f.back;
              parts = f.parts;
              place = f.place;
              begins = elim f.begins [
                | inl none ↦ inl none
                | inr begun ↦ inr (tt, begun.1 ++ word, tt, ap (λ xs. xs ++ word) begun.3 ∙ append_assoc f.front begun.1 word)
              ];
              firm = λ c rest other is. ap (λ r. r >>= word_at word) (f.firm c rest other is);
            }
        | inr goes ↦
            let f = rest_reads.fault goes.0 stop goes.2 in
            record {
              front = b ∷ f.front;
              back = f.back;
              parts = byte_found b bytes goes.0 goes.1 ∙ ap (λ xs. b ∷ xs) f.parts;
              place = f.place;
              begins = elim f.begins [
                | inl none ↦ inr (tt, word, tt, ap (λ xs. b ∷ (xs ++ word)) (sym none))
                | inr begun ↦ inr (tt, begun.1, tt, ap (λ xs. b ∷ xs) begun.3)
              ];
              firm = λ c rest other is. rw (byte_again b (f.front ++ c ∷ other)) (f.firm c rest other is);
            }
      ];
}

-- the reader of a word
pub word_reads : (word : List ℕ) → ReadsWord word (word_at word)
word_reads [] = nothing_reads
word_reads (b ∷ word) = byte_then b word (word_reads word)

-- the same values, said in another way
pub same_values : {A : Type 0} (V W : A → Type 0) (t : A → List ℕ) (p : List ℕ → Result (A × List ℕ) Stop) → ((a : A) → V a → W a) → ((a : A) → W a → V a)
    → Reads V t p → Reads W t p
same_values V W t p there back reads = record {
  takes = λ bytes a rest e. let f = reads.takes bytes a rest e in (f.0, there a f.1);
  again = λ a rest w. reads.again a rest (back a w);
  fault = λ bytes stop e.
      let f = reads.fault bytes stop e in
      record {
        front = f.front;
        back = f.back;
        parts = f.parts;
        place = f.place;
        begins = elim f.begins [ inl none ↦ inl none | inr begun ↦ inr (begun.0, begun.1, there begun.0 begun.2, begun.3) ];
        firm = f.firm;
      };
}

-- no value at all
pub none_reads : {A : Type 0} (t : A → List ℕ) → Reads (λ (a : A). ⊥) t (λ bytes. Err (stop_at bytes))
none_reads t = record {
  takes = λ bytes a rest e. absurd cc;
  again = λ a rest v. absurd v;
  fault = λ bytes stop e. record {
    front = [];
    back = bytes;
    parts = refl;
    place = cc;
    begins = inl refl;
    firm = λ b rest other is. refl;
  };
}

-- ---- a choice by the first byte

-- what follows a byte does not change the choice
pub same_first : (word front : List ℕ) (b : ℕ) (rest other : List ℕ) → begins_as word (front ++ b ∷ other) ≡ begins_as word (front ++ b ∷ rest)
same_first [] front b rest other = refl
same_first (c ∷ word) [] b rest other = refl
same_first (c ∷ word) (d ∷ front) b rest other = refl

module _ {A : Type 0} (word : List ℕ) (t : A → List ℕ) (V W : A → Type 0) (p q : List ℕ → Result (A × List ℕ) Stop)
    (first : Reads V t p) (second : Reads W t q)
    (starts : (a : A) (rest : List ℕ) → V a → begins_as word (t a ++ rest) ≡ true)
    (differs : (a : A) (rest : List ℕ) → W a → begins_as word (t a ++ rest) ≡ false) where
  -- the one reader or the other
  abbrev pub choice : List ℕ → Result (A × List ℕ) Stop
  choice bytes = cond (begins_as word bytes) (p bytes) (q bytes)

  -- what is read is spelled so
  choice_found : (bytes : List ℕ) (a : A) (rest : List ℕ) → choice bytes ≡ Ok (a, rest) → (bytes ≡ t a ++ rest) × (V a ⊎ W a)
  choice_found bytes a rest e =
      elim (cases_Bool (begins_as word bytes)) [
        | inl chosen ↦ let on : p bytes ≡ Ok (a, rest) = rw chosen at e in let f = first.takes bytes a rest on in (f.0, inl f.1)
        | inr passed ↦ let on : q bytes ≡ Ok (a, rest) = rw passed at e in let f = second.takes bytes a rest on in (f.0, inr f.1)
      ]

  -- what is spelled so is read
  choice_again : (a : A) (rest : List ℕ) → V a ⊎ W a → choice (t a ++ rest) ≡ Ok (a, rest)
  choice_again a rest v =
      elim v [
        | inl v ↦ rw (starts a rest v) (first.again a rest v)
        | inr w ↦ rw (differs a rest w) (second.again a rest w)
      ]

  -- where the two have a fault
  choice_fault : (bytes : List ℕ) (stop : Stop) → choice bytes ≡ Err stop → FaultIn (λ a. V a ⊎ W a) t choice bytes stop
  choice_fault bytes stop e =
      elim (cases_Bool (begins_as word bytes)) [
        | inl chosen ↦
            let on : p bytes ≡ Err stop = rw chosen at e in
            let f = first.fault bytes stop on in
            record {
              front = f.front;
              back = f.back;
              parts = f.parts;
              place = f.place;
              begins = elim f.begins [ inl none ↦ inl none | inr begun ↦ inr (begun.0, begun.1, inl begun.2, begun.3) ];
              firm = λ b rest other is.
                  let still : begins_as word (f.front ++ b ∷ other) ≡ true =
                  same_first word f.front b rest other ∙ ap (begins_as word) (ap (λ xs. f.front ++ xs) (sym is) ∙ sym f.parts) ∙ chosen in
                  rw still (f.firm b rest other is);
            }
        | inr passed ↦
            let on : q bytes ≡ Err stop = rw passed at e in
            let f = second.fault bytes stop on in
            record {
              front = f.front;
              back = f.back;
              parts = f.parts;
              place = f.place;
              begins = elim f.begins [ inl none ↦ inl none | inr begun ↦ inr (begun.0, begun.1, inr begun.2, begun.3) ];
              firm = λ b rest other is.
                  let still : begins_as word (f.front ++ b ∷ other) ≡ false =
                  same_first word f.front b rest other ∙ ap (begins_as word) (ap (λ xs. f.front ++ xs) (sym is) ∙ sym f.parts) ∙ passed in
                  rw still (f.firm b rest other is);
            }
      ]

  -- the reader of either
  pub choice_reads : Reads (λ a. V a ⊎ W a) t choice
  choice_reads = record { takes = choice_found; again = choice_again; fault = choice_fault }
