-- Steps that give a value, and tests that chose.
use Rattle.std.proofs.Common.{◌≡◌, ◌⊎◌, Bool, true, false, cond, Result, Ok, Err, refl, inl, inr}
use Rattle.label_core.specs.declared.fault.Stop.{Stop}
use Rattle.label_core.specs.Reading.{◌>>=◌}

-- the value of a step that did not fail
pub bind_ok : {A B : Type 0} (r : Result A Stop) (f : A → Result B Stop) (y : B) → (r >>= f) ≡ Ok y → (x : A) × (r ≡ Ok x) × (f x ≡ Ok y)
bind_ok (Ok x) f y e = (x, refl, e)
bind_ok (Err stop) f y e = absurd cc

-- steps that go on alike
pub alike : {A B : Type 0} (r : Result A Stop) (f g : A → Result B Stop) → ((x : A) → r ≡ Ok x → f x ≡ g x) → (r >>= f) ≡ (r >>= g)
alike (Ok x) f g each = each x refl
alike (Err stop) f g each = refl

pub then_assoc : {A B C : Type 0} (r : Result A Stop) (f : A → Result B Stop) (g : B → Result C Stop) → ((r >>= f) >>= g) ≡ (r >>= λ x. f x >>= g)
then_assoc (Ok x) f g = refl
then_assoc (Err stop) f g = refl

-- a test that chose, and which way
pub choice_cases : {A : Type 0} (b : Bool) (x y z : A) → cond b x y ≡ z → ((b ≡ true) × (x ≡ z)) ⊎ ((b ≡ false) × (y ≡ z))
choice_cases true x y z e = inl (refl, e)
choice_cases false x y z e = inr (refl, e)

abbrev pub ok_of : {A : Type 0} → A → Result A Stop
ok_of x = Ok x

pub ok_is : {A : Type 0} (x y : A) → ok_of x ≡ ok_of y → x ≡ y
ok_is x y e = cc

pub err_not_ok : {A E P : Type 0} (e : E) (x : A) → ◌≡◌ {A = Result A E} (Err e) (Ok x) → P
err_not_ok e x wrong = absurd cc
