-- How many open files there are of a pipe's ends and of a line, as calls see them and as the table of descriptors counts them.
use Rattle.std.proofs.Common.{◌≡◌, ℕ, ◌+◌, Bool, true, false, cond, not, List, [], ◌∷◌, Option, Some, None, refl, sym, ap, ◌∙◌, arith}
use Rattle.std.specs.Prelude.{◌==◌, ◌&&◌, count_by}
use Rattle.std.proofs.lemmas.List.Sums.{sum_by-cons}
use Rattle.fd_table.specs.declared.open.Open.{Open}
use Rattle.fd_table.specs.declared.open.Target.{Target as KernelTarget}
use Rattle.fd_table.specs.declared.open.Target.TheVariants.{File as FileOf, PipeRead, PipeWrite, Line}
use Rattle.fd_table.specs.Shared.{Shared, holds, count_files}
use Rattle.fd_table.specs.Opens.{same_target, is_of}
use Rattle.tree_model.specs.Tree.{NodeAt}
use Rattle.system_model.specs.State.{OpenFile}
use Rattle.system_model.specs.Keeping.{seeing, is_pipe_end, is_tty, is_live_of}
use Rattle.system_model.specs.Keeping as keeping
use Rattle.system_model.specs.IoCalls.{is_write_end, is_read_end}
use Rattle.system_model.specs.Tables.{seen_target, is_dead_target, seen_open, seen_files}
use Rattle.system_model.specs.Fit.{is_end_of, is_live_file}
use Rattle.system_model.proofs.SeenFiles.{count_seen}

abbrev bit : Bool → ℕ
bit b = cond b 1 0

holds-same : {F : Type 0} (test other : F → Bool) → ((f : F) → test f ≡ other f) → (o : Option F) → holds test o ≡ holds other o
holds-same test other same None = refl
holds-same test other same (Some f) = same f

count-same : {F : Type 0} (test other : F → Bool) → ((f : F) → test f ≡ other f) → (files : List (Option F)) → count_by (holds test) files ≡ count_by (holds other) files
count-same test other same [] = refl
count-same {F} test other same (x ∷ files) =
    sum_by-cons (λ (o : Option F). bit (holds test o)) x files
    ∙ ap (λ n. bit (holds test x) + n) (count-same test other same files)
    ∙ ap (λ b. bit b + count_by (holds other) files) (holds-same test other same x)
    ∙ sym (sum_by-cons (λ (o : Option F). bit (holds other o)) x files)

-- files that pass a test are as many as those that pass an equal one
pub files_same : {F : Type 0} (test other : F → Bool) → ((f : F) → test f ≡ other f) → (d : Shared F) → count_files test d ≡ count_files other d
files_same test other same d = count-same test other same d.files

-- ---- pipes

writes-target : (nodes : List (Option NodeAt)) (k : ℕ) (f : Open) → is_write_end k (seen_target nodes f.target) ≡ is_of (PipeWrite k) f
writes-target nodes k f = by_target f.target
  where
    by_target : (target : KernelTarget) → is_write_end k (seen_target nodes target) ≡ same_target target (PipeWrite k)
    by_target (FileOf number) = refl
    by_target (PipeRead other) = refl
    by_target (PipeWrite other) = refl
    by_target (Line line opened) = refl

reads-target : (nodes : List (Option NodeAt)) (k : ℕ) (f : Open) → is_read_end k (seen_target nodes f.target) ≡ is_of (PipeRead k) f
reads-target nodes k f = by_target f.target
  where
    by_target : (target : KernelTarget) → is_read_end k (seen_target nodes target) ≡ same_target target (PipeRead k)
    by_target (FileOf number) = refl
    by_target (PipeRead other) = refl
    by_target (PipeWrite other) = refl
    by_target (Line line opened) = refl

ends-target : (nodes : List (Option NodeAt)) (k : ℕ) (target : KernelTarget) → is_pipe_end k (seen_target nodes target) ≡ is_end_of k target
ends-target nodes k (FileOf number) = refl
ends-target nodes k (PipeRead other) = refl
ends-target nodes k (PipeWrite other) = refl
ends-target nodes k (Line line opened) = refl

-- the files that write to a pipe, that read from it, and both
pub writers_seen : (nodes : List (Option NodeAt)) (revokes : List ℕ) (k : ℕ) (d : Shared Open)
    → count_files (λ (f : OpenFile). is_write_end k f.file.target) (seen_files nodes revokes d) ≡ count_files (is_of (PipeWrite k)) d
writers_seen nodes revokes k d =
    count_seen nodes revokes (λ (f : OpenFile). is_write_end k f.file.target) d
    ∙ files_same (λ (f : Open). is_write_end k (seen_target nodes f.target)) (is_of (PipeWrite k)) (writes-target nodes k) d

pub readers_seen : (nodes : List (Option NodeAt)) (revokes : List ℕ) (k : ℕ) (d : Shared Open)
    → count_files (λ (f : OpenFile). is_read_end k f.file.target) (seen_files nodes revokes d) ≡ count_files (is_of (PipeRead k)) d
readers_seen nodes revokes k d =
    count_seen nodes revokes (λ (f : OpenFile). is_read_end k f.file.target) d
    ∙ files_same (λ (f : Open). is_read_end k (seen_target nodes f.target)) (is_of (PipeRead k)) (reads-target nodes k) d

pub ends_seen : (nodes : List (Option NodeAt)) (revokes : List ℕ) (k : ℕ) (d : Shared Open)
    → count_files (keeping.is_end_of seeing k) (seen_files nodes revokes d) ≡ count_files (λ f. is_end_of k f.target) d
ends_seen nodes revokes k d =
    count_seen nodes revokes (keeping.is_end_of seeing k) d
    ∙ files_same (λ (f : Open). is_pipe_end k (seen_target nodes f.target)) (λ f. is_end_of k f.target) (λ f. ends-target nodes k f.target) d

ends-one : (k : ℕ) (target : KernelTarget)
    → bit (is_end_of k target) ≡ bit (same_target target (PipeRead k)) + bit (same_target target (PipeWrite k))
ends-one k (FileOf number) = refl
ends-one k (PipeRead other) = by_case (other == k)
  where
    by_case : (b : Bool) → bit b ≡ bit b + 0
    by_case true = refl
    by_case false = refl
ends-one k (PipeWrite other) = by_case (other == k)
  where
    by_case : (b : Bool) → bit b ≡ 0 + bit b
    by_case true = refl
    by_case false = refl
ends-one k (Line line opened) = refl

ends-held : (k : ℕ) (o : Option Open)
    → bit (holds (λ f. is_end_of k f.target) o) ≡ bit (holds (is_of (PipeRead k)) o) + bit (holds (is_of (PipeWrite k)) o)
ends-held k None = refl
ends-held k (Some f) = ends-one k f.target

ends-sum : (k : ℕ) (files : List (Option Open))
    → count_by (holds (λ (f : Open). is_end_of k f.target)) files ≡ count_by (holds (is_of (PipeRead k))) files + count_by (holds (is_of (PipeWrite k))) files
ends-sum k [] = refl
ends-sum k (x ∷ files) =
    let all = sum_by-cons (λ (o : Option Open). bit (holds (λ (f : Open). is_end_of k f.target) o)) x files in
    let readers = sum_by-cons (λ (o : Option Open). bit (holds (is_of (PipeRead k)) o)) x files in
    let writers = sum_by-cons (λ (o : Option Open). bit (holds (is_of (PipeWrite k)) o)) x files in
    let one = ends-held k x in
    let rest = ends-sum k files in
    omega (arith, all, readers, writers, one, rest)

-- the ends of a pipe are those that are read and those that are written
pub ends_counted : (k : ℕ) (d : Shared Open)
    → count_files (λ f. is_end_of k f.target) d ≡ count_files (is_of (PipeRead k)) d + count_files (is_of (PipeWrite k)) d
ends_counted k d = ends-sum k d.files

-- ---- lines

live-target : (nodes : List (Option NodeAt)) (revokes : List ℕ) (n : ℕ) (f : Open) → is_live_of seeing n (seen_open nodes revokes f) ≡ is_live_file revokes n f.target
live-target nodes revokes n f = by_target f.target
  where
    by_target : (target : KernelTarget) → (not (is_dead_target revokes target) && is_tty n (seen_target nodes target)) ≡ is_live_file revokes n target
    by_target (FileOf number) = refl
    by_target (PipeRead other) = refl
    by_target (PipeWrite other) = refl
    by_target (Line line opened) = refl

-- the files of a line that are not dead
pub live_seen : (nodes : List (Option NodeAt)) (revokes : List ℕ) (n : ℕ) (d : Shared Open)
    → count_files (is_live_of seeing n) (seen_files nodes revokes d) ≡ count_files (λ f. is_live_file revokes n f.target) d
live_seen nodes revokes n d =
    count_seen nodes revokes (is_live_of seeing n) d
    ∙ files_same (λ (f : Open). is_live_of seeing n (seen_open nodes revokes f)) (λ f. is_live_file revokes n f.target) (live-target nodes revokes n) d
