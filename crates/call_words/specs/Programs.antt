-- What a program is handed.
use Rattle.std.specs.Prelude.{◌≡◌, ℕ, List, [], ◌∷◌, ◌++◌}
use Rattle.sys_types.specs.declared.image.Image.{Image}
use Rattle.call_words.specs.declared.event.Reply.{Reply}
use Rattle.call_words.specs.declared.event.Reply.TheVariants as reply

-- the replies begin with the image of a program and its arguments
abbrev pub BeginWith : Image → List ℕ → List Reply → Type 0
BeginWith image args [] = ⊥
BeginWith image args (first ∷ more) = first ≡ reply.Image image args

-- there are replies for which a program stands, and with the next one they begin with its image and its arguments
pub record StandsFor (image : Image) (args : List ℕ) (stands : List Reply → Type 0) (next : Reply) : Type 0 where
  pub replies : List Reply
  pub stand : stands replies
  pub begin : BeginWith image args (replies ++ next ∷ [])
