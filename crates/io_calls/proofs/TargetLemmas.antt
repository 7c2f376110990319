-- What the open file of a number is of is there.
use Rattle.std.proofs.Common.{◌≡◌, ℕ, zero, suc, ◌<◌, Bool, true, cond, not, List, [], ◌∷◌, length, get_or, Option, Some, None, refl, sym, ap, ◌∙◌}
use Rattle.std.proofs.Common.{subst, eq-eqb, arith}
use Rattle.std.specs.Prelude.{◌==◌, count_by}
use Rattle.std.proofs.lemmas.List.Sums.{sum_by-cons}
use Rattle.sys_types.specs.declared.limits.TheConstants.{LINES}
use Rattle.block_pool.specs.Chain.{ChainState}
use Rattle.fd_table.specs.declared.open.Descriptor.{Descriptor}
use Rattle.fd_table.specs.declared.open.Open.{Open}
use Rattle.fd_table.specs.declared.open.Target.{Target}
use Rattle.fd_table.specs.declared.open.Target.TheVariants as target
use Rattle.fd_table.specs.Shared.{Shared, descriptor_at, entry_at, file_of, file_at, holds, count_files}
use Rattle.pipe_core.specs.Pipes.{Pipes, is_there}
use Rattle.tree_model.specs.Tree.{NodeAt}
use Rattle.tty_dev.specs.Line.{LineState}
use Rattle.tty_dev.specs.Table.{counts_of, boots_of}
use Rattle.tty_dev.proofs.TableLemmas.{length-counts}
use Rattle.system_model.specs.Fit.{is_end_of, FitFiles, FitPipes, FitLines}
use Rattle.io_calls.specs.Targets.{IsThere}

counted : (test : Open → Bool) (files : List (Option Open)) (entry : ℕ) (f : Open) → get_or files entry None ≡ Some f → test f ≡ true
    → 0 < count_by (holds test) files
counted test [] entry f is passes = absurd cc
counted test (x ∷ files) zero f is passes =
    let all = sum_by-cons (λ (o : Option Open). cond (holds test o) 1 0) x files in
    let one : ◌≡◌ {A = ℕ} (cond (holds test x) 1 0) 1 = ap (λ o. cond (holds test o) 1 0) is ∙ ap (λ b. cond b 1 0) passes in
    omega (arith, all, one)
counted test (x ∷ files) (suc entry) f is passes =
    let all = sum_by-cons (λ (o : Option Open). cond (holds test o) 1 0) x files in
    let rest = counted test files entry f is passes in
    omega (arith, all, rest)

not-none : (n : ℕ) → 0 < n → not (n == 0) ≡ true
not-none n some = grind arith

end-there : (d : Shared Open) (pipes : Pipes ChainState) (k entry : ℕ) (f : Open) → FitPipes d pipes → entry_at d.files entry ≡ Some f
    → is_end_of k f.target ≡ true → is_there pipes k ≡ true
end-there d pipes k entry f fit is of =
    fit.ends k ∙ not-none (count_files (λ (g : Open). is_end_of k g.target) d) (counted (λ (g : Open). is_end_of k g.target) d.files entry f is of)

by-target : (nodes : List (Option NodeAt)) (d : Shared Open) (pipes : Pipes ChainState) (lines : List LineState) (entry : ℕ) (f : Open) (x : Target)
    → FitFiles nodes d → FitPipes d pipes → FitLines d (counts_of lines) (boots_of lines) → entry_at d.files entry ≡ Some f → f.target ≡ x
    → IsThere nodes pipes x
by-target nodes d pipes lines entry f (target.File n) files ends fit is of = files.live entry n f is of
by-target nodes d pipes lines entry f (target.PipeRead k) files ends fit is of =
    end-there d pipes k entry f ends is (ap (is_end_of k) of ∙ eq-eqb k k refl)
by-target nodes d pipes lines entry f (target.PipeWrite k) files ends fit is of =
    end-there d pipes k entry f ends is (ap (is_end_of k) of ∙ eq-eqb k k refl)
by-target nodes d pipes lines entry f (target.Line n opened) files ends fit is of = fit.there entry n opened f is of

by-descriptor : (nodes : List (Option NodeAt)) (d : Shared Open) (pipes : Pipes ChainState) (lines : List LineState) (o : Option Descriptor) (f : Open)
    → FitFiles nodes d → FitPipes d pipes → FitLines d (counts_of lines) (boots_of lines) → file_of d.files o ≡ Some f → IsThere nodes pipes f.target
by-descriptor nodes d pipes lines None f files ends fit is = absurd cc
by-descriptor nodes d pipes lines (Some x) f files ends fit is = by-target nodes d pipes lines x.entry f f.target files ends fit is refl

pub target_there : (nodes : List (Option NodeAt)) (d : Shared Open) (pipes : Pipes ChainState) (lines : List LineState) (slot fd : ℕ) (f : Open)
    → FitFiles nodes d → FitPipes d pipes → FitLines d (counts_of lines) (boots_of lines) → file_at d slot fd ≡ Some f → IsThere nodes pipes f.target
target_there nodes d pipes lines slot fd f files ends fit is = by-descriptor nodes d pipes lines (descriptor_at d.table slot fd) f files ends fit is

-- there are 8 lines
pub lines_count : (d : Shared Open) (lines : List LineState) → FitLines d (counts_of lines) (boots_of lines) → length lines ≡ LINES
lines_count d lines fit = sym (length-counts lines) ∙ fit.lines

-- a line that there is, of a file
pub line_there : (nodes : List (Option NodeAt)) (pipes : Pipes ChainState) (lines : List LineState) (x : Target) (n opened : ℕ) → length lines ≡ LINES
    → IsThere nodes pipes x → x ≡ target.Line n opened → n < length lines
line_there nodes pipes lines x n opened count there of = rw count (subst (λ y. IsThere nodes pipes y) of there)
