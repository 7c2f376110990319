-- What is done at a terminal line puts cells behind its output, or empties the output first, or takes cells from its front.
use Rattle.std.proofs.Common.{◌≡◌, ◌⊎◌, inl, inr, ℕ, Bool, true, false, cond, List, [], ◌∷◌, ◌++◌, map, take, drop, Option, Some, None, refl, sym, ap, ◌∙◌}
use Rattle.std.specs.Prelude.{not, ◌&&◌, ◌||◌, ◌==◌, ◌+◌, reverse, nat_le, length}
use Rattle.std.proofs.lemmas.List.{append-nil, take-append-drop}
use Rattle.sys_types.specs.declared.limits.TheConstants.{OUTPUT_BYTES}
use Rattle.sys_types.specs.declared.sig.Sig.{Sig}
use Rattle.termios_core.specs.declared.termios.Termios.{Termios}
use Rattle.line_disc.specs.Echo.{newline, is_char, shown, echo, erase_echo, drop_line_echo}
use Rattle.line_disc.specs.Discipline.{Cells, Input, Discipline}
use Rattle.line_disc.specs.Cook.{put_whole, strip, is_flow, set_flow, signal_of, flush, interrupt, translate, erase_last, erase, drop_line, is_full, end_file}
use Rattle.line_disc.specs.Cook.{end_line, make_ready, is_long, add_byte, enter, enter_as, cook_by_case, cook}
use Rattle.line_disc.specs.Transfers.{put, put_count, output_front, after_take, retune}
use Rattle.system_laws.proofs.InputCells.{choose}

-- bytes are put behind the output, or behind nothing where all that stood there is lost
pub record Puts {C : Type 0} (c : Cells C) (old new : Discipline C) : Type 0 where
  pub put : List ℕ
  pub lost : List C
  pub is : old.output ++ map c.made put ≡ lost ++ new.output
  pub cleared : (lost ≡ []) ⊎ (new.output ≡ map c.made put)

puts-none : {C : Type 0} (c : Cells C) (old new : Discipline C) → new.output ≡ old.output → Puts c old new
puts-none c old new same = record { put = []; lost = []; is = append-nil old.output ∙ sym same; cleared = inl refl }

puts-empty : {C : Type 0} (c : Cells C) (old new : Discipline C) → new.output ≡ [] → Puts c old new
puts-empty c old new empty = record { put = []; lost = old.output; is = ap (λ xs. old.output ++ xs) (sym empty); cleared = inr empty }

puts-behind : {C : Type 0} (c : Cells C) (old new : Discipline C) (out : List ℕ) → new.output ≡ old.output ++ map c.made out → Puts c old new
puts-behind c old new out same = record { put = out; lost = []; is = sym same; cleared = inl refl }

puts-alone : {C : Type 0} (c : Cells C) (old new : Discipline C) (out : List ℕ) → new.output ≡ map c.made out → Puts c old new
puts-alone c old new out same = record { put = out; lost = old.output; is = ap (λ xs. old.output ++ xs) (sym same); cleared = inr same }

-- the output so far is the old one, or nothing
put-whole : {C : Type 0} (c : Cells C) (old d : Discipline C) (out : List ℕ) → (d.output ≡ old.output) ⊎ (d.output ≡ []) → Puts c old (put_whole c d out)
put-whole c old d out (inl same) =
    choose (Puts c old) (nat_le (length d.output + length (shown d.termios out)) OUTPUT_BYTES) _ d
    (λ is. puts-behind c old _ (shown d.termios out) (ap (λ xs. xs ++ map c.made (shown d.termios out)) same)) (λ is. puts-none c old d same)
put-whole c old d out (inr empty) =
    choose (Puts c old) (nat_le (length d.output + length (shown d.termios out)) OUTPUT_BYTES) _ d
    (λ is. puts-alone c old _ (shown d.termios out) (ap (λ xs. xs ++ map c.made (shown d.termios out)) empty)) (λ is. puts-empty c old d empty)

-- the same where the input was changed
put-edit : {C : Type 0} (c : Cells C) (d : Discipline C) (input : Input C) (out : List ℕ) → Puts c d (put_whole c (record d { input = input }) out)
put-edit c d input out = put-whole c d (record d { input = input }) out (inl refl)

-- ---- a byte comes in

kept-or-none : {C : Type 0} (t : Bool) (output : List C) → (cond t [] output ≡ output) ⊎ (cond t [] output ≡ [])
kept-or-none true output = inr refl
kept-or-none false output = inl refl

put-interrupt : {C : Type 0} (c : Cells C) (d : Discipline C) (b : ℕ) → Puts c d (interrupt c d b)
unfolding interrupt
put-interrupt c d b =
    let t = not d.termios.flags.noflsh in
    put-whole c d (flush d t t) (echo d.termios b) (kept-or-none t d.output)

put-erase : {C : Type 0} (c : Cells C) (d : Discipline C) (b : ℕ) (xs : List C) → Puts c d (erase_last c d b xs)
put-erase c d b [] = puts-none c d d refl
put-erase c d b (last ∷ before) = put-edit c d (record { ready = d.input.ready; current = reverse before }) (erase_echo d.termios b (c.byte last))

put-drop : {C : Type 0} (c : Cells C) (d : Discipline C) (b : ℕ) → Puts c d (drop_line c d b)
unfolding drop_line
put-drop c d b = put-edit c d (record { ready = d.input.ready; current = [] }) (drop_line_echo d.termios b)

put-end_file : {C : Type 0} (c : Cells C) (d : Discipline C) → Puts c d (end_file d)
unfolding end_file
put-end_file c d = puts-none c d _ refl

put-end_line : {C : Type 0} (c : Cells C) (d : Discipline C) (b : ℕ) → Puts c d (end_line c d b)
unfolding end_line
put-end_line c d b = put-edit c d (make_ready d.input (d.input.current ++ c.made b ∷ []) false) (echo d.termios b)

put-add : {C : Type 0} (c : Cells C) (d : Discipline C) (b : ℕ) → Puts c d (add_byte c d b)
unfolding add_byte
put-add c d b = put-edit c d (record { ready = d.input.ready; current = d.input.current ++ c.made b ∷ [] }) (echo d.termios b)

put-erased : {C : Type 0} (c : Cells C) (d : Discipline C) (b : ℕ) → Puts c d (erase c d b)
unfolding erase
put-erased c d b = put-erase c d b (reverse d.input.current)

put-enter : {C : Type 0} (c : Cells C) (d : Discipline C) (b : ℕ) → Puts c d (enter c d b)
put-enter c d b =
    let edits = d.termios.flags.icanon in
    let P = Puts c d in
    choose P (edits && is_char d.termios.erase b) _ _ (λ is. put-erased c d b) (λ is.
    choose P (edits && is_char d.termios.kill b) _ _ (λ is. put-drop c d b) (λ is.
    choose P (is_full d) _ _ (λ is. puts-none c d d refl) (λ is.
    choose P (edits && is_char d.termios.eof b) _ _ (λ is. put-end_file c d) (λ is.
    choose P (edits && ((b == newline) || is_char d.termios.eol b)) _ _ (λ is. put-end_line c d b) (λ is.
    choose P (is_long d) _ _ (λ is. puts-none c d d refl) (λ is. put-add c d b))))))

put-enter_as : {C : Type 0} (c : Cells C) (d : Discipline C) (o : Option ℕ) → Puts c d (enter_as c d o)
put-enter_as c d None = puts-none c d d refl
put-enter_as c d (Some read) = put-enter c d read

put-by_signal : {C : Type 0} (c : Cells C) (d : Discipline C) (b : ℕ) (o : Option Sig) → Puts c d (cook_by_case c d (strip d.termios b) o)
put-by_signal c d b None = put-enter_as c d (translate d.termios (strip d.termios b))
put-by_signal c d b (Some signal) = put-interrupt c d (strip d.termios b)

pub put_cook : {C : Type 0} (c : Cells C) (d : Discipline C) (b : ℕ) → Puts c d (cook c d b).0
unfolding cook
put_cook {C} c d b = by_case (is_flow d.termios (strip d.termios b))
  where
    signal : Option Sig
    signal = signal_of d.termios (strip d.termios b)

    by_case : (t : Bool)
        → Puts c d (cond {A = Discipline C × Option Sig} t (set_flow d (strip d.termios b), None) (cook_by_case c d (strip d.termios b) signal, signal)).0
    by_case true = puts-none c d _ refl
    by_case false = put-by_signal c d b signal

-- ---- writes, takes, and what empties the output

pub put_write : {C : Type 0} (c : Cells C) (d : Discipline C) (written : List ℕ) → Puts c d (put c d written)
unfolding put
put_write c d written = puts-behind c d _ (shown d.termios (take (put_count d written) written)) refl

pub put_retune : {C : Type 0} (c : Cells C) (d : Discipline C) (t : Termios) → Puts c d (retune d t)
unfolding retune
put_retune c d t = puts-none c d _ refl

pub put_flush : {C : Type 0} (c : Cells C) (d : Discipline C) (input output : Bool) → Puts c d (flush d input output)
put_flush c d input true = puts-empty c d _ refl
put_flush c d input false = puts-none c d _ refl

-- what is taken stood in front of what is left
pub takes_front : {C : Type 0} (d : Discipline C) (max : ℕ) → d.output ≡ output_front d max ++ (after_take d max).output
takes_front {C} d max = by_case d.stopped
  where
    by_case : (t : Bool) → d.output ≡ cond t [] (take max d.output) ++ (cond t d (record d { output = drop max d.output })).output
    by_case true = refl
    by_case false = sym (take-append-drop max d.output)
