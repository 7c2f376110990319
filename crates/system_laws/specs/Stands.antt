-- For which states a kernel stands that calls see as a view.
use Rattle.std.specs.Prelude.{◌≡◌, ℕ, ◌+◌, ◌<◌, ◌≤◌, List, [], ◌∷◌, Option, Some, None}
use Rattle.system_model.specs.State.{NamedFile, last_revoke, State, View, view}

-- an open file was made before the event at a position, and each of some
abbrev pub IsEarlier : ℕ → Option NamedFile → Type 0
IsEarlier p None = Unit {0}
IsEarlier p (Some f) = f.name.made < p

abbrev pub AreEarlier : ℕ → List (Option NamedFile) → Type 0
AreEarlier p [] = Unit {0}
AreEarlier p (f ∷ fs) = IsEarlier p f × AreEarlier p fs

-- After n events no position of a name or of a revoke is after them, and nobody is still to be ended.
pub record Within (n : ℕ) (s : State) : Type 0 where
  pub files : AreEarlier (n + 1) s.parts.descriptors.files
  pub revokes : (line : ℕ) → last_revoke s.revokes line ≤ n
  pub ending : s.parts.ending ≡ []

-- a kernel that calls see as v stands for the state s after n events
pub record Stands (v : View) (n : ℕ) (s : State) : Type 0 where
  pub seen : v ≡ view s
  pub within : Within n s
