-- What effects make of origins: these agree with the open files that descriptors refer to, effect by effect.
use Rattle.std.proofs.Common.{◌≡◌, ◌≢◌, inl, inr, ℕ, Bool, List, [], ◌∷◌, get_or, set, Option, Some, None, refl, ap, sym, ◌∙◌}
use Rattle.std.proofs.Common.{subst}
use Rattle.std.specs.Prelude.{◌==◌, option_map}
use Rattle.std.proofs.lemmas.Bool.Decides.{eqb_tells}
use Rattle.fd_table.specs.declared.open.Descriptor.{Descriptor}
use Rattle.fd_table.specs.Shared.{Table, row_of, descriptor_at, put, lowest_entry, lowest_number, copy, fork, drop_number, last_file, change_file, files_after}
use Rattle.fd_table.specs.Shared.{change_in, without_mark}
use Rattle.fd_table.specs.Calls.{open_lowest}
use Rattle.fd_table.proofs.CountLemmas.{references-some}
use Rattle.system_model.specs.State.{NamedFile, State}
use Rattle.system_model.specs.FileEffects.{FileEffect, open_file, copy_fd, close_fd, fork_fds, set_offset, at_offset, change_files}
use Rattle.system_model.specs.TreeEffects.{set_node, change_tree}
use Rattle.system_model.specs.Effects.{Effect, on_files, on_pipes, on_lines, on_tree, on_processes, halt, tag, tag_all}
use Rattle.system_laws.specs.Origins.{Origins, put_origin, fork_origins}
use Rattle.system_laws.proofs.SeenSteps.{release-files, earlier-lines, earlier-pipes, earlier-processes}
use Rattle.system_laws.proofs.OpenFiles.{named}
use Rattle.system_laws.proofs.MadeFiles.{Named, IsFrom, Agree, other, here, outside, at-set, kept, given, closed, at-put}
use Rattle.system_laws.proofs.MadeFiles.{from-same, agree-put, made-opened, made-new, made-left, made-change_in}

-- what an effect of the event at position p makes of the origins, over these numbers
abbrev pub file_origins : Table → ℕ → FileEffect → Origins → Origins
file_origins table p (open_file slot file on_exec) o = put_origin o slot (lowest_number table slot) (Some p)
file_origins table p (copy_fd slot from into) o = put_origin o slot into (o slot from)
file_origins table p (close_fd slot fd) o = o
file_origins table p (fork_fds from into) o = fork_origins o from (λ slot. slot == into)
file_origins table p (set_offset slot fd offset) o = o

abbrev pub effect_origins : Table → ℕ → Effect → Origins → Origins
effect_origins table p (on_files e) o = file_origins table p e o
effect_origins table p _ o = o

-- and what some make
abbrev pub all_origins : State → ℕ → List Effect → Origins → Origins
all_origins s p [] o = o
all_origins s p (e ∷ es) o = all_origins (tag s p e) p es (effect_origins s.parts.descriptors.table p e o)

-- ---- effects on files

opened-from : (o : Option ℕ) (t : Named) (new : NamedFile) (d : Option Descriptor) → IsFrom o t.files d
    → IsFrom o (set t.files (lowest_entry t.files) (Some new)) d
opened-from o t new None from = tt
opened-from o t new (Some d) from = made-opened o t.files d.entry new from

agree-open : (o : Origins) (t : Named) (slot : ℕ) (new : NamedFile) (on_exec : Bool) → Agree o t
    → Agree (put_origin o slot (lowest_number t.table slot) (Some new.name.made)) (open_lowest t slot new on_exec).0
agree-open o t slot new on_exec agree =
    agree-put o t.table (set t.files (lowest_entry t.files) (Some new)) slot (lowest_number t.table slot) (Some new.name.made) _
    (λ s n. opened-from (o s n) t new (descriptor_at t.table s n) (agree s n)) (made-new t.files new)

copied-from : (o : Option ℕ) (files : List (Option NamedFile)) (d : Option Descriptor) → IsFrom o files d → IsFrom o files (option_map without_mark d)
copied-from o files None from = tt
copied-from o files (Some d) from = from

agree-copy : (o : Origins) (t : Named) (slot from into : ℕ) → Agree o t → Agree (put_origin o slot into (o slot from)) (copy t slot from into)
agree-copy o t slot from into agree =
    agree-put o t.table t.files slot into (o slot from) _ agree (copied-from (o slot from) t.files (descriptor_at t.table slot from) (agree slot from))

-- the number of a descriptor that is there after one was taken away was there before
agree-drop : (o : Origins) (t : Named) (slot fd : ℕ) → Agree o t → Agree o (drop_number t slot fd)
agree-drop o t slot fd agree s n = by_number (descriptor_at after s n) refl
  where
    after : Table
    after = put t.table slot fd None

    before : (d : Descriptor) → descriptor_at after s n ≡ Some d → descriptor_at t.table s n ≡ Some d
    before d is =
        elim (at-put t.table slot fd None s n) [
          | kept apart same ↦ sym same ∙ is
          | given one two same ↦ (let never = sym same ∙ is in cc)
          | closed same ↦ (let never = sym same ∙ is in cc)
        ]

    by_number : (d : Option Descriptor) → descriptor_at after s n ≡ d → IsFrom (o s n) (files_after (descriptor_at t.table slot fd) after t.files) (descriptor_at after s n)
    by_number None is = rw is tt
    by_number (Some d) is =
        rw is (made-left (o s n) after t.files d.entry (descriptor_at t.table slot fd) (references-some after s n d is).2
        (from-same (o s n) (o s n) t.files (descriptor_at t.table s n) (Some d) refl (sym (before d is)) (agree s n)))

agree-fork : (o : Origins) (t : Named) (from into : ℕ) → Agree o t → Agree (fork_origins o from (λ slot. slot == into)) (fork t from into)
agree-fork o t from into agree s n =
    elim (at-set t.table into s (row_of t.table from) []) [
      | other apart same ↦ from-same (o s n) _ t.files (descriptor_at t.table s n) _ (not_child (λ is. apart (sym is))) (read same) (agree s n)
      | here is same ↦ from-same (o from n) _ t.files (descriptor_at t.table from n) _ (child (sym is)) (read same) (agree from n)
      | outside same ↦ from-same (fork_origins o from (λ slot. slot == into) s n) _ t.files None _ refl (read same) tt
    ]
  where
    read : {row : List (Option Descriptor)} → get_or (set t.table into (row_of t.table from)) s [] ≡ row
        → descriptor_at (fork t from into).table s n ≡ get_or row n None
    read same = ap (λ (r : List (Option Descriptor)). get_or r n None) same

    child : s ≡ into → fork_origins o from (λ slot. slot == into) s n ≡ o from n
    child is =
        elim (eqb_tells s into) [
          | inl (a, also) ↦ rw a refl
          | inr (a, isnt) ↦ absurd (isnt is)
        ]

    not_child : s ≢ into → fork_origins o from (λ slot. slot == into) s n ≡ o s n
    not_child apart =
        elim (eqb_tells s into) [
          | inl (a, also) ↦ absurd (apart also)
          | inr (a, isnt) ↦ rw a refl
        ]

changed-from : (o : Option ℕ) (files : List (Option NamedFile)) (how : NamedFile → NamedFile) → ((f : NamedFile) → (how f).name ≡ f.name)
    → (c d : Option Descriptor) → IsFrom o files d → IsFrom o (change_in how c files) d
changed-from o files how same c None from = tt
changed-from o files how same c (Some d) from = made-change_in o how same c files d.entry from

agree-change : (o : Origins) (t : Named) (slot fd : ℕ) (how : NamedFile → NamedFile) → ((f : NamedFile) → (how f).name ≡ f.name) → Agree o t
    → Agree o (change_file how t slot fd)
agree-change o t slot fd how same agree s n =
    changed-from (o s n) t.files how same (descriptor_at t.table slot fd) (descriptor_at t.table s n) (agree s n)

agree-files : (s : State) (p : ℕ) (e : FileEffect) (o : Origins) → Agree o s.parts.descriptors
    → Agree (file_origins s.parts.descriptors.table p e o) (tag s p (on_files e)).parts.descriptors
unfolding change_files
agree-files s p (open_file slot file on_exec) o agree = agree-open o s.parts.descriptors slot (named p file) on_exec agree
agree-files s p (copy_fd slot from into) o agree = agree-copy o s.parts.descriptors slot from into agree
agree-files s p (close_fd slot fd) o agree =
    subst (Agree o)
    (sym (release-files p s.revokes (record (s.parts) { descriptors = drop_number s.parts.descriptors slot fd }) (last_file s.parts.descriptors slot fd)))
    (agree-drop o s.parts.descriptors slot fd agree)
agree-files s p (fork_fds from into) o agree = agree-fork o s.parts.descriptors from into agree
agree-files s p (set_offset slot fd offset) o agree =
    agree-change o s.parts.descriptors slot fd (λ f. record f { file = at_offset offset f.file }) (λ f. refl) agree

-- ---- all effects

pub agree_tag : (s : State) (p : ℕ) (e : Effect) (o : Origins) → Agree o s.parts.descriptors
    → Agree (effect_origins s.parts.descriptors.table p e o) (tag s p e).parts.descriptors
unfolding change_tree
agree_tag s p (on_files e) o agree = agree-files s p e o agree
agree_tag s p (on_pipes e) o agree = subst (Agree o) (sym (earlier-pipes p s.revokes s.parts e)) agree
agree_tag s p (on_lines e) o agree = subst (Agree o) (sym (earlier-lines p s.revokes s.parts e)) agree
agree_tag s p (on_tree (set_node path what)) o agree = agree
agree_tag s p (on_processes e) o agree = subst (Agree o) (sym (earlier-processes s.parts e)) agree
agree_tag s p halt o agree = agree

pub agree_all : (s : State) (p : ℕ) (es : List Effect) (o : Origins) → Agree o s.parts.descriptors
    → Agree (all_origins s p es o) (tag_all s p es).parts.descriptors
agree_all s p [] o agree = agree
agree_all s p (e ∷ es) o agree = agree_all (tag s p e) p es (effect_origins s.parts.descriptors.table p e o) (agree_tag s p e o agree)
