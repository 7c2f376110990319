-- What the numbers of a slot refer to, as calls see it.
use Rattle.std.proofs.Common.{◌≡◌, ℕ, Option, Some, None, option_map, refl, ap, ◌∙◌}
use Rattle.std.specs.Prelude.{is_none}
use Rattle.fd_table.specs.declared.open.Open.{Open}
use Rattle.fd_table.specs.Shared as shared
use Rattle.tty_dev.specs.Table.{counts_of}
use Rattle.system_model.specs.Looks.{file_at}
use Rattle.system_model.specs.Tables.{Tables, generations, seen_open, view_of}
use Rattle.system_model.proofs.SeenFiles.{file_seen}

-- the open file of a number
pub file_at_seen : (t : Tables) (slot fd : ℕ)
    → file_at (view_of t) slot fd ≡ option_map (seen_open t.nodes (generations (counts_of t.lines))) (shared.file_at t.descriptors slot fd)
unfolding view_of
file_at_seen t slot fd = file_seen t.nodes (generations (counts_of t.lines)) t.descriptors slot fd

none-map : {A B : Type 0} (f : A → B) (o : Option A) → is_none (option_map f o) ≡ is_none o
none-map f None = refl
none-map f (Some x) = refl

-- whether it is open
pub closed_seen : (t : Tables) (slot fd : ℕ) → is_none (file_at (view_of t) slot fd) ≡ is_none (shared.file_at t.descriptors slot fd)
closed_seen t slot fd = ap is_none (file_at_seen t slot fd) ∙ none-map (seen_open t.nodes (generations (counts_of t.lines))) (shared.file_at t.descriptors slot fd)

-- the file of a number that is open
pub opened_seen : (t : Tables) (slot fd : ℕ) (f : Open) → shared.file_at t.descriptors slot fd ≡ Some f
    → file_at (view_of t) slot fd ≡ Some (seen_open t.nodes (generations (counts_of t.lines)) f)
opened_seen t slot fd f is = file_at_seen t slot fd ∙ ap (option_map (seen_open t.nodes (generations (counts_of t.lines)))) is
