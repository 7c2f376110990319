-- The table of descriptors where the offset of an open file changes, as calls see it, and that all fits it still.
use Rattle.std.proofs.Common.{◌≡◌, ℕ, zero, suc, ◌+◌, Bool, cond, not, List, [], ◌∷◌, get_or, set, Option, Some, None, option_map, refl, sym, ap, ◌∙◌}
use Rattle.std.specs.Prelude.{◌==◌, count_by}
use Rattle.std.proofs.lemmas.List.Sums.{sum_by-cons}
use Rattle.block_pool.specs.Chain.{ChainState}
use Rattle.fd_table.specs.declared.open.Descriptor.{Descriptor}
use Rattle.fd_table.specs.declared.open.Open.{Open}
use Rattle.fd_table.specs.declared.open.Target.{Target}
use Rattle.fd_table.specs.Opens.{at_offset}
use Rattle.fd_table.specs.Shared.{Shared, descriptor_at, entry_at, change_in, change_file, holds}
use Rattle.pipe_core.specs.Pipes.{Pipes}
use Rattle.proc_table.specs.Processes.{Processes}
use Rattle.tree_model.specs.Tree.{NodeAt}
use Rattle.tty_dev.specs.History.{Counts}
use Rattle.tty_dev.specs.Table.{counts_of}
use Rattle.system_model.specs.Effects.{on_files, change}
use Rattle.system_model.specs.FileEffects.{set_offset, change_files}
use Rattle.system_model.specs.Fit.{is_end_of, is_live_file, FitFiles, FitSlots, FitPipes, FitLines}
use Rattle.system_model.specs.Tables.{Tables, generations, view_of}
use Rattle.system_model.proofs.SeenFiles.{offset_seen}
use Rattle.system_model.proofs.Views.{seen_as}

-- ---- what calls see

pub offset_view : (t : Tables) (slot fd offset : ℕ)
    → view_of (record t { descriptors = change_file (at_offset offset) t.descriptors slot fd }) ≡ change (view_of t) (on_files (set_offset slot fd offset))
unfolding view_of change_files
offset_view t slot fd offset =
    seen_as (record t { descriptors = change_file (at_offset offset) t.descriptors slot fd }) (change (view_of t) (on_files (set_offset slot fd offset)))
    (offset_seen t.nodes (generations (counts_of t.lines)) t.descriptors slot fd offset) refl refl refl refl refl refl refl

-- ---- the files are of the same

abbrev moved : ℕ → Option Open → Option Open
moved offset o = option_map (at_offset offset) o

abbrev Was : Option Open → Open → Type 0
Was o g = (f : Open) × (o ≡ Some f) × (f.target ≡ g.target)

was-moved : (offset : ℕ) (o : Option Open) (g : Open) → moved offset o ≡ Some g → Was o g
was-moved offset None g is = absurd cc
was-moved offset (Some f) g is = (f, refl, ap target-of is)
  where
    target-of : Option Open → Target
    target-of None = f.target
    target-of (Some x) = x.target

was-entry : (offset : ℕ) (files : List (Option Open)) (i entry : ℕ) (g : Open) → get_or (set files i (moved offset (get_or files i None))) entry None ≡ Some g
    → Was (get_or files entry None) g
was-entry offset [] i entry g is = (g, is, refl)
was-entry offset (x ∷ files) zero zero g is = was-moved offset x g is
was-entry offset (x ∷ files) zero (suc entry) g is = (g, is, refl)
was-entry offset (x ∷ files) (suc i) zero g is = (g, is, refl)
was-entry offset (x ∷ files) (suc i) (suc entry) g is = was-entry offset files i entry g is

was : (offset : ℕ) (files : List (Option Open)) (o : Option Descriptor) (entry : ℕ) (g : Open) → entry_at (change_in (at_offset offset) o files) entry ≡ Some g
    → Was (entry_at files entry) g
was offset files None entry g is = (g, is, refl)
was offset files (Some d) entry g is = was-entry offset files d.entry entry g is

abbrev bit : Bool → ℕ
bit b = cond b 1 0

abbrev is_of : (Target → Bool) → Option Open → Bool
is_of test o = holds (λ (f : Open). test f.target) o

same-one : (test : Target → Bool) (offset : ℕ) (o : Option Open) → is_of test (moved offset o) ≡ is_of test o
same-one test offset None = refl
same-one test offset (Some f) = refl

same-all : (test : Target → Bool) (offset : ℕ) (files : List (Option Open)) (i : ℕ)
    → count_by (is_of test) (set files i (moved offset (get_or files i None))) ≡ count_by (is_of test) files
same-all test offset [] i = refl
same-all test offset (x ∷ files) zero =
    sum_by-cons (λ (o : Option Open). bit (is_of test o)) (moved offset x) files
    ∙ ap (λ b. bit b + count_by (is_of test) files) (same-one test offset x)
    ∙ sym (sum_by-cons (λ (o : Option Open). bit (is_of test o)) x files)
same-all test offset (x ∷ files) (suc i) =
    sum_by-cons (λ (o : Option Open). bit (is_of test o)) x (set files i (moved offset (get_or files i None)))
    ∙ ap (λ n. bit (is_of test x) + n) (same-all test offset files i)
    ∙ sym (sum_by-cons (λ (o : Option Open). bit (is_of test o)) x files)

same-count : (test : Target → Bool) (offset : ℕ) (files : List (Option Open)) (o : Option Descriptor)
    → count_by (is_of test) (change_in (at_offset offset) o files) ≡ count_by (is_of test) files
same-count test offset files None = refl
same-count test offset files (Some d) = same-all test offset files d.entry

-- ---- what fits

pub files_moved : (nodes : List (Option NodeAt)) (d : Shared Open) (slot fd offset : ℕ) → FitFiles nodes d
    → FitFiles nodes (change_file (at_offset offset) d slot fd)
files_moved nodes d slot fd offset fit = record {
  live = λ entry n f here of.
      let old = was offset d.files (descriptor_at d.table slot fd) entry f here in
      fit.live entry n old.0 old.1 (old.2 ∙ of);
}

pub slots_moved : (d : Shared Open) (slot fd offset : ℕ) (processes : Processes ℕ) → FitSlots d processes
    → FitSlots (change_file (at_offset offset) d slot fd) processes
slots_moved d slot fd offset processes fit = record { running = fit.running }

pub pipes_moved : (d : Shared Open) (slot fd offset : ℕ) (pipes : Pipes ChainState) → FitPipes d pipes
    → FitPipes (change_file (at_offset offset) d slot fd) pipes
pipes_moved d slot fd offset pipes fit = record {
  places = fit.places;
  ends = λ k. fit.ends k ∙ ap (λ n. not (n == 0)) (sym (same-count (is_end_of k) offset d.files (descriptor_at d.table slot fd)));
}

pub lines_moved : (d : Shared Open) (slot fd offset : ℕ) (counts : List Counts) (boots : List Bool) → FitLines d counts boots
    → FitLines (change_file (at_offset offset) d slot fd) counts boots
lines_moved d slot fd offset counts boots fit = record {
  lines = fit.lines;
  live = λ n below. fit.live n below ∙ sym (same-count (is_live_file (generations counts) n) offset d.files (descriptor_at d.table slot fd));
  there = λ entry n opened f here of.
      let old = was offset d.files (descriptor_at d.table slot fd) entry f here in
      fit.there entry n opened old.0 old.1 (old.2 ∙ of);
  early = λ entry n opened f here of.
      let old = was offset d.files (descriptor_at d.table slot fd) entry f here in
      fit.early entry n opened old.0 old.1 (old.2 ∙ of);
  cooked = fit.cooked;
}
