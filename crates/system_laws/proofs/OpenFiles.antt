-- What holds of each open file under its name holds still after an event, if it holds of the files that the event opens.
use Rattle.std.proofs.Common.{◌≡◌, ℕ, zero, suc, Bool, true, false, cond, List, [], ◌∷◌, ◌++◌}
use Rattle.std.specs.Prelude.{◌==◌, Option, Some, None, option_map, slice_set, replicate}
use Rattle.fd_table.specs.declared.open.Descriptor.{Descriptor}
use Rattle.fd_table.specs.Shared.{Table, entry_at, descriptor_at, references, lowest_entry, files_after, change_in, drop_number, last_file}
use Rattle.call_words.specs.declared.event.Event.{Event}
use Rattle.system_laws.specs.Laws.{IsOpenedBy}
use Rattle.system_model.specs.State.{NamedFile, State, View}
use Rattle.system_model.specs.Parts.{File}
use Rattle.system_model.specs.Keeping.{end_name}
use Rattle.system_model.specs.FileEffects.{FileEffect, open_file, copy_fd, close_fd, fork_fds, set_offset, at_offset, change_files}
use Rattle.system_model.specs.TreeEffects.{set_node, change_tree}
use Rattle.system_model.specs.Effects.{Effect, on_files, on_pipes, on_lines, on_tree, on_processes, halt, tag, tag_all}
use Rattle.system_laws.proofs.Openings.{opens_file, NoOpen, no_effect, next_effect}
use Rattle.system_laws.proofs.SeenSteps.{release-files, earlier-lines, earlier-pipes, earlier-processes}

-- a file that the event at a position opens, under its name
abbrev pub named : ℕ → File → NamedFile
named p file = record { name = record { made = p; end = end_name file.target }; file = file }

-- what holds of the file that an effect opens, if it opens one
abbrev pub OpensSuch : (File → Type 0) → Effect → Type 0
OpensSuch P (on_files (open_file slot file on_exec)) = P file
OpensSuch P _ = Unit {0}

-- and of each that some effects open
abbrev pub AllOpen : (File → Type 0) → List Effect → Type 0
AllOpen P [] = Unit {0}
AllOpen P (e ∷ es) = OpensSuch P e × AllOpen P es

-- the event opens the file, whatever its offset is later
abbrev pub Opened : View → Event → File → Type 0
Opened v e file = IsOpenedBy v e (at_offset 0 file)

opens-none : (P : File → Type 0) (e : Effect) → opens_file e ≡ false → OpensSuch P e
opens-none P (on_files (open_file slot file on_exec)) is = cc
opens-none P _ is = tt

pub all-none : (P : File → Type 0) (es : List Effect) → NoOpen es → AllOpen P es
all-none P [] no_effect = tt
all-none P (e ∷ es) (next_effect _ _ is more) = (opens-none P e is, all-none P es more)

pub all-append : (P : File → Type 0) (es fs : List Effect) → AllOpen P es → AllOpen P fs → AllOpen P (es ++ fs)
all-append P [] fs first second = second
all-append P (e ∷ es) fs first second = (first.0, all-append P es fs first.1 second)

such-file : (P Q : File → Type 0) → ((file : File) → P file → Q file) → (e : Effect) → OpensSuch P e → OpensSuch Q e
such-file P Q more (on_files (open_file slot file on_exec)) is = more file is
such-file P Q more _ is = tt

pub all-such : (P Q : File → Type 0) → ((file : File) → P file → Q file) → (es : List Effect) → AllOpen P es → AllOpen Q es
all-such P Q more [] all = tt
all-such P Q more (e ∷ es) all = (such-file P Q more e all.0, all-such P Q more es all.1)

-- ---- the files of a state

-- what holds of an open file, if there is one, and of each of some
abbrev pub IsSuch : (NamedFile → Type 0) → Option NamedFile → Type 0
IsSuch G None = Unit {0}
IsSuch G (Some f) = G f

abbrev pub AreSuch : (NamedFile → Type 0) → List (Option NamedFile) → Type 0
AreSuch G [] = Unit {0}
AreSuch G (f ∷ fs) = IsSuch G f × AreSuch G fs

pub such-at : (G : NamedFile → Type 0) (files : List (Option NamedFile)) (i : ℕ) → AreSuch G files → IsSuch G (entry_at files i)
such-at G [] i are = tt
such-at G (g ∷ gs) zero are = are.0
such-at G (g ∷ gs) (suc i) are = such-at G gs i are.1

pub such-none : (G : NamedFile → Type 0) (count : ℕ) → AreSuch G (replicate count None)
such-none G zero = tt
such-none G (suc count) = (tt, such-none G count)

such-set : (G : NamedFile → Type 0) (files : List (Option NamedFile)) (i : ℕ) (f : Option NamedFile) → IsSuch G f → AreSuch G files
    → AreSuch G (slice_set files i f)
such-set G [] i f is are = are
such-set G (g ∷ gs) zero f is are = (is, are.1)
such-set G (g ∷ gs) (suc i) f is are = (are.0, such-set G gs i f is are.1)

such-left : (G : NamedFile → Type 0) (d : Option Descriptor) (after : Table) (files : List (Option NamedFile)) → AreSuch G files
    → AreSuch G (files_after d after files)
such-left G None after files are = are
such-left G (Some d) after files are = by_case (references d.entry after == 0)
  where
    by_case : (t : Bool) → AreSuch G (cond t (slice_set files d.entry None) files)
    by_case true = such-set G files d.entry None tt are
    by_case false = are

-- it holds of a file whatever its offset is
abbrev pub IsAtAny : (NamedFile → Type 0) → Type 0
IsAtAny G = (offset : ℕ) (f : NamedFile) → G f → G (record f { file = at_offset offset f.file })

such-offset : (G : NamedFile → Type 0) (offset : ℕ) (f : Option NamedFile) → IsAtAny G → IsSuch G f
    → IsSuch G (option_map (λ (f : NamedFile). record f { file = at_offset offset f.file }) f)
such-offset G offset None any is = tt
such-offset G offset (Some f) any is = any offset f is

such-changed : (G : NamedFile → Type 0) (offset : ℕ) (d : Option Descriptor) (files : List (Option NamedFile)) → IsAtAny G → AreSuch G files
    → AreSuch G (change_in (λ (f : NamedFile). record f { file = at_offset offset f.file }) d files)
such-changed G offset None files any are = are
such-changed G offset (Some d) files any are =
    such-set G files d.entry _ (such-offset G offset (entry_at files d.entry) any (such-at G files d.entry are)) are

such-files : (G : NamedFile → Type 0) (s : State) (p : ℕ) (e : FileEffect) → IsAtAny G → OpensSuch (λ file. G (named p file)) (on_files e)
    → AreSuch G s.parts.descriptors.files → AreSuch G (tag s p (on_files e)).parts.descriptors.files
unfolding change_files
such-files G s p (open_file slot file on_exec) any is are =
    such-set G s.parts.descriptors.files (lowest_entry s.parts.descriptors.files) (Some (named p file)) is are
such-files G s p (copy_fd slot from into) any is are = are
such-files G s p (close_fd slot fd) any is are =
    rw (release-files p s.revokes (record (s.parts) { descriptors = drop_number s.parts.descriptors slot fd }) (last_file s.parts.descriptors slot fd))
    (such-left G (descriptor_at s.parts.descriptors.table slot fd) _ s.parts.descriptors.files are)
such-files G s p (fork_fds from into) any is are = are
such-files G s p (set_offset slot fd offset) any is are =
    such-changed G offset (descriptor_at s.parts.descriptors.table slot fd) s.parts.descriptors.files any are

such-tag : (G : NamedFile → Type 0) (s : State) (p : ℕ) (e : Effect) → IsAtAny G → OpensSuch (λ file. G (named p file)) e
    → AreSuch G s.parts.descriptors.files → AreSuch G (tag s p e).parts.descriptors.files
unfolding change_tree
such-tag G s p (on_files e) any is are = such-files G s p e any is are
such-tag G s p (on_pipes e) any is are = rw (earlier-pipes p s.revokes s.parts e) are
such-tag G s p (on_lines e) any is are = rw (earlier-lines p s.revokes s.parts e) are
such-tag G s p (on_tree (set_node path what)) any is are = are
such-tag G s p (on_processes e) any is are = rw (earlier-processes s.parts e) are
such-tag G s p halt any is are = are

-- after the effects of the event at position p
pub such_all : (G : NamedFile → Type 0) (es : List Effect) (s : State) (p : ℕ) → IsAtAny G → AllOpen (λ file. G (named p file)) es
    → AreSuch G s.parts.descriptors.files → AreSuch G (tag_all s p es).parts.descriptors.files
such_all G [] s p any is are = are
such_all G (e ∷ es) s p any is are = such_all G es (tag s p e) p any is.1 (such-tag G s p e any is.0 are)
