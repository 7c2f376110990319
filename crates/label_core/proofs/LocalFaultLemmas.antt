-- A fault stands at the first byte that nothing that is read has after those before it.
use Rattle.std.proofs.Common.{◌≡◌, ◌≢◌, ◌⊎◌, ℕ, List, [], ◌∷◌, ◌++◌, length, Result, Ok, Err, refl, sym, ap, ◌∙◌, inl, inr, append_assoc}
use Rattle.label_core.specs.declared.fault.LabelKind.{LabelKind}
use Rattle.label_core.specs.declared.fault.LabelKind.TheVariants as kind
use Rattle.label_core.specs.declared.fault.Stop.{Stop}
use Rattle.label_core.specs.Reading.{◌>>=◌, stop_at}

-- a reader takes a value from the front of the bytes, and leaves the rest
abbrev pub Reader : Type 0 → Type 0
Reader A = List ℕ → Result (A × List ℕ) Stop

-- both lists begin, and with the same byte
abbrev pub SameFirst : List ℕ → List ℕ → Type 0
SameFirst [] ys = ⊥
SameFirst (x ∷ xs) [] = ⊥
SameFirst (x ∷ xs) (y ∷ ys) = x ≡ y

abbrev pub IsFault : {A : Type 0} → Result A Stop → Type 0
IsFault r = (s : Stop) × (r ≡ Err s)

-- what was read is read again before bytes that begin as the rest does, and before those that End says
pub record TakesFront {A : Type 0} (End : List ℕ → Type 0) (read : Reader A) (bytes : List ℕ) (x : A × List ℕ) : Type 0 where
  pub text : List ℕ
  pub parts : bytes ≡ text ++ x.1
  pub again : (other : List ℕ) → SameFirst x.1 other ⊎ End other → read (text ++ other) ≡ Ok (x.0, other)

-- after the front something can be read
pub record Completes {A : Type 0} (End : List ℕ → Type 0) (read : Reader A) (front : List ℕ) : Type 0 where
  pub more : List ℕ
  pub value : A
  pub again : (other : List ℕ) → End other → read (front ++ (more ++ other)) ≡ Ok (value, other)

-- a fault: after the front something can be read, and after the front and the byte at the fault nothing
pub record FaultPlace {A : Type 0} (End : List ℕ → Type 0) (read : Reader A) (bytes : List ℕ) (s : Stop) : Type 0 where
  pub front : List ℕ
  pub rest : List ℕ
  pub parts : bytes ≡ front ++ rest
  pub place : s.left ≡ length rest
  pub kind_is : s.kind ≢ kind.Range
  pub dead : (other : List ℕ) → SameFirst rest other → IsFault (read (front ++ other))
  pub alive : Completes End read front

abbrev pub LocalBy : {A : Type 0} → (List ℕ → Type 0) → Reader A → List ℕ → Result (A × List ℕ) Stop → Type 0
LocalBy End read bytes (Ok x) = TakesFront End read bytes x
LocalBy End read bytes (Err s) = FaultPlace End read bytes s

-- what the reader does with these bytes rests on those before the fault, on the byte there, and on no other
abbrev pub Local : {A : Type 0} → (List ℕ → Type 0) → Reader A → List ℕ → Type 0
Local End read bytes = LocalBy End read bytes (read bytes)

-- something can be read, and what it is spelled as ends what was read before
pub record Starts {A : Type 0} (Before End : List ℕ → Type 0) (read : Reader A) : Type 0 where
  pub text : List ℕ
  pub value : A
  pub ends : (other : List ℕ) → End other → Before (text ++ other)
  pub again : (other : List ℕ) → End other → read (text ++ other) ≡ Ok (value, other)

-- one reader after another
abbrev pub then_read : {A B : Type 0} → Reader A → (A → Reader B) → Reader B
then_read first second bytes = first bytes >>= λ x. second x.0 x.1

same_first_after : (front xs ys : List ℕ) → SameFirst xs ys → SameFirst (front ++ xs) (front ++ ys)
same_first_after [] xs ys same = same
same_first_after (b ∷ front) xs ys same = refl

module _ {A B : Type 0} (Before End : List ℕ → Type 0) (first : Reader A) (second : A → Reader B) (starts : (a : A) → Starts Before End (second a))
    (keeps : (other : List ℕ) → End other → Before other) where
  fault_in_first : (bytes : List ℕ) (s : Stop) → FaultPlace Before first bytes s → FaultPlace End (then_read first second) bytes s
  fault_in_first bytes s f =
      let st = starts f.alive.value in
      record {
        front = f.front;
        rest = f.rest;
        parts = f.parts;
        place = f.place;
        kind_is = f.kind_is;
        dead = λ other same. let d = f.dead other same in (d.0, rw d.1 refl);
        alive = record {
          more = f.alive.more ++ st.text;
          value = st.value;
          again = λ other end.
              let text : f.front ++ ((f.alive.more ++ st.text) ++ other) ≡ f.front ++ (f.alive.more ++ (st.text ++ other)) =
              ap (λ (t : List ℕ). f.front ++ t) (append_assoc f.alive.more st.text other) in
              ap (then_read first second) text ∙ rw (f.alive.again (st.text ++ other) (st.ends other end)) (st.again other end);
        };
      }

  -- the second reader goes on where the first stopped
  goes_on_after : (text : List ℕ) (a : A) (front xs : List ℕ) → first (text ++ (front ++ xs)) ≡ Ok (a, front ++ xs)
      → then_read first second ((text ++ front) ++ xs) ≡ second a (front ++ xs)
  goes_on_after text a front xs given = ap (then_read first second) (append_assoc text front xs) ∙ rw given refl

  completes_second : (bytes : List ℕ) (x : A × List ℕ) (front rest : List ℕ) (t : TakesFront Before first bytes x) → x.1 ≡ front ++ rest
      → Completes End (second x.0) front → Completes End (then_read first second) (t.text ++ front)
  completes_second bytes x [] rest t parts c =
      let st = starts x.0 in
      record {
        more = st.text;
        value = st.value;
        again = λ other end. goes_on_after t.text x.0 [] (st.text ++ other) (t.again (st.text ++ other) (inr (st.ends other end))) ∙ st.again other end;
      }
  completes_second bytes x (b ∷ front) rest t parts c =
      record {
        more = c.more;
        value = c.value;
        again =
            λ other end. goes_on_after t.text x.0 (b ∷ front) (c.more ++ other) (t.again (b ∷ front ++ (c.more ++ other)) (inl (rw parts refl)))
            ∙ c.again other end;
      }

  fault_in_second : (bytes : List ℕ) (x : A × List ℕ) (s : Stop) → TakesFront Before first bytes x → FaultPlace End (second x.0) x.1 s
      → FaultPlace End (then_read first second) bytes s
  fault_in_second bytes x s t f =
      record {
        front = t.text ++ f.front;
        rest = f.rest;
        parts = t.parts ∙ ap (λ (r : List ℕ). t.text ++ r) f.parts ∙ sym (append_assoc t.text f.front f.rest);
        place = f.place;
        kind_is = f.kind_is;
        dead = λ other same.
            let read : first (t.text ++ (f.front ++ other)) ≡ Ok (x.0, f.front ++ other) =
            t.again (f.front ++ other) (inl (rw f.parts (same_first_after f.front f.rest other same))) in
            let d = f.dead other same in
            (d.0, goes_on_after t.text x.0 f.front other read ∙ d.1);
        alive = completes_second bytes x f.front f.rest t f.parts f.alive;
      }

  -- what follows the second part follows the first where the second has nothing
  follows_first : (x other text rest : List ℕ) → x ≡ text ++ rest → SameFirst rest other ⊎ End other → SameFirst x (text ++ other) ⊎ Before (text ++ other)
  follows_first x other [] rest parts (inl same) = inl (rw parts same)
  follows_first x other [] rest parts (inr end) = inr (keeps other end)
  follows_first x other (b ∷ text) rest parts follows = inl (rw parts refl)

  takes_both : (bytes : List ℕ) (x : A × List ℕ) (y : B × List ℕ) → TakesFront Before first bytes x → TakesFront End (second x.0) x.1 y
      → TakesFront End (then_read first second) bytes y
  takes_both bytes x y t u =
      record {
        text = t.text ++ u.text;
        parts = t.parts ∙ ap (λ (r : List ℕ). t.text ++ r) u.parts ∙ sym (append_assoc t.text u.text y.1);
        again = λ other follows.
            let read : first (t.text ++ (u.text ++ other)) ≡ Ok (x.0, u.text ++ other) =
            t.again (u.text ++ other) (follows_first x.1 other u.text y.1 u.parts follows) in
            goes_on_after t.text x.0 u.text other read ∙ u.again other follows;
      }

  pub local_then : (bytes : List ℕ) → Local Before first bytes → ((x : A × List ℕ) → first bytes ≡ Ok x → Local End (second x.0) x.1)
      → Local End (then_read first second) bytes
  local_then bytes one two = go (first bytes) refl one
    where
      after : (x : A × List ℕ) (r : Result (B × List ℕ) Stop) → TakesFront Before first bytes x → LocalBy End (second x.0) x.1 r
          → LocalBy End (then_read first second) bytes r
      after x (Ok y) t u = takes_both bytes x y t u
      after x (Err s) t f = fault_in_second bytes x s t f

      go : (r : Result (A × List ℕ) Stop) → first bytes ≡ r → LocalBy Before first bytes r
          → LocalBy End (then_read first second) bytes (r >>= λ x. second x.0 x.1)
      go (Ok x) e t = after x (second x.0 x.1) t (two x e)
      go (Err s) e f = fault_in_first bytes s f

-- Readers by what they do with the first byte.

begins_so : (b : ℕ) (bytes other : List ℕ) → SameFirst (b ∷ bytes) other → (o : List ℕ) × (other ≡ b ∷ o)
begins_so b bytes [] same = absurd same
begins_so b bytes (c ∷ o) same = (o, ap (λ k. k ∷ o) (sym same))

either : {P Q R : Type 0} → (P → R) → (Q → R) → P ⊎ Q → R
either f g (inl p) = f p
either f g (inr q) = g q

module _ {A : Type 0} (End : List ℕ → Type 0) (read : Reader A) where
  -- a fault at the end of the bytes
  pub local_fault_end : (why : LabelKind) → why ≢ kind.Range → read [] ≡ Err (stop_at why []) → Completes End read [] → Local End read []
  local_fault_end why other given c =
      rw given (record { front = []; rest = []; parts = refl; place = refl; kind_is = other; dead = λ other same. absurd same; alive = c })

  -- a fault at a byte
  pub local_fault_byte : (why : LabelKind) (b : ℕ) (bytes : List ℕ) → why ≢ kind.Range → ((t : List ℕ) → read (b ∷ t) ≡ Err (stop_at why (b ∷ t)))
      → Completes End read [] → Local End read (b ∷ bytes)
  local_fault_byte why b bytes other given c = rw (given bytes) (record {
    front = [];
    rest = b ∷ bytes;
    parts = refl;
    place = refl;
    kind_is = other;
    dead = λ other same. let o = begins_so b bytes other same in (stop_at why (b ∷ o.0), ap read o.1 ∙ given o.0);
    alive = c;
  })

  -- nothing is taken at the end of the bytes
  pub local_none_end : (a : A) → read [] ≡ Ok (a, []) → ((other : List ℕ) → End other → read other ≡ Ok (a, other)) → Local End read []
  local_none_end a given ends = rw given (record { text = []; parts = refl; again = λ other. either (λ same. absurd same) (ends other) })

  -- nothing is taken before a byte
  pub local_none_byte : (a : A) (b : ℕ) (bytes : List ℕ) → ((t : List ℕ) → read (b ∷ t) ≡ Ok (a, b ∷ t))
      → ((other : List ℕ) → End other → read other ≡ Ok (a, other)) → Local End read (b ∷ bytes)
  local_none_byte a b bytes given ends = rw (given bytes) (record {
    text = [];
    parts = refl;
    again = λ other. either (λ same. let o = begins_so b bytes other same in ap read o.1 ∙ given o.0 ∙ ap (λ (r : List ℕ). Ok (a, r)) (sym o.1)) (ends other);
  })

-- nothing is taken, whatever follows
pub local_none : {A : Type 0} (End : List ℕ → Type 0) (a : A) (bytes : List ℕ) → Local End (λ rest. Ok (a, rest)) bytes
local_none End a bytes = record { text = []; parts = refl; again = λ other follows. refl }

module _ {A : Type 0} (End : List ℕ → Type 0) (read new : Reader A) (b : ℕ) (goes : (t : List ℕ) → new (b ∷ t) ≡ read t) where
  takes_byte : (bytes : List ℕ) (x : A × List ℕ) → TakesFront End read bytes x → TakesFront End new (b ∷ bytes) x
  takes_byte bytes x t = record {
    text = b ∷ t.text;
    parts = ap (λ (r : List ℕ). b ∷ r) t.parts;
    again = λ other follows. goes (t.text ++ other) ∙ t.again other follows;
  }

  fault_after_byte : (bytes : List ℕ) (s : Stop) → FaultPlace End read bytes s → FaultPlace End new (b ∷ bytes) s
  fault_after_byte bytes s f = record {
    front = b ∷ f.front;
    rest = f.rest;
    parts = ap (λ (r : List ℕ). b ∷ r) f.parts;
    place = f.place;
    kind_is = f.kind_is;
    dead = λ other same. let d = f.dead other same in (d.0, goes (f.front ++ other) ∙ d.1);
    alive = record { more = f.alive.more; value = f.alive.value; again = λ other end. goes (f.front ++ (f.alive.more ++ other)) ∙ f.alive.again other end };
  }

  local_cons_by : (bytes : List ℕ) (r : Result (A × List ℕ) Stop) → LocalBy End read bytes r → LocalBy End new (b ∷ bytes) r
  local_cons_by bytes (Ok x) t = takes_byte bytes x t
  local_cons_by bytes (Err s) f = fault_after_byte bytes s f

  -- a byte, and then another reader
  pub local_cons : (bytes : List ℕ) → Local End read bytes → Local End new (b ∷ bytes)
  local_cons bytes local = rw (goes bytes) (local_cons_by bytes (read bytes) local)

module _ {A : Type 0} (End : List ℕ → Type 0) (read new : Reader A) (same : (t : List ℕ) → new t ≡ read t) where
  local_same_by : (bytes : List ℕ) (r : Result (A × List ℕ) Stop) → LocalBy End read bytes r → LocalBy End new bytes r
  local_same_by bytes (Ok x) t = record { text = t.text; parts = t.parts; again = λ other follows. same (t.text ++ other) ∙ t.again other follows }
  local_same_by bytes (Err s) f = record {
    front = f.front;
    rest = f.rest;
    parts = f.parts;
    place = f.place;
    kind_is = f.kind_is;
    dead = λ other first. let d = f.dead other first in (d.0, same (f.front ++ other) ∙ d.1);
    alive = record { more = f.alive.more; value = f.alive.value; again = λ other end. same (f.front ++ (f.alive.more ++ other)) ∙ f.alive.again other end };
  }

  -- the same reader in other words
  pub local_same : (bytes : List ℕ) → Local End read bytes → Local End new bytes
  local_same bytes local = rw (same bytes) (local_same_by bytes (read bytes) local)
