-- A line discipline over the blocks of a lease.
use Rattle.std.proofs.Common.{◌≡◌, ℕ, suc, length-append, ◌+◌, ◌-◌, ◌<◌, ◌≤◌, Bool, true, false, not, List, [], ◌∷◌, ◌++◌, length, take, drop, min, map, sym}
use Rattle.std.proofs.Common.{refl, ap, ap₂, ◌∙◌, arith, append-nil, add-one, drop-cons, get_or}
use Rattle.std.proofs.lemmas.Grind.{flat_map-append}
use Rattle.std.proofs.lemmas.List.{take_more}
use Rattle.std.specs.Prelude.{if◌then◌else◌, nat_le, nat_lt, Option, None, reverse}
use Rattle.std.proofs.lemmas.Bool.Decides.{nat_tests}
use Rattle.std.proofs.lemmas.List.Elements.{Contains-append_left, Contains-append_right}
use Rattle.std.proofs.lemmas.List.{reverse-append, reverse-reverse}
use Rattle.block_pool.specs.Pool.{PoolState, AreOf, AreApart, WritesTo}
use Rattle.block_pool.specs.Chain.{ChainState, holds}
use Rattle.block_pool.proofs.LeaseLemmas.{leased_part, leases_apart, leased_rearranged, times_swapped, leased_written}
use Rattle.block_pool.proofs.BlockLemmas.{writes_wider, writes_in_turn}
use Rattle.block_pool.proofs.CircleLemmas.{holds_apart}
use Rattle.sys_types.specs.declared.sig.Sig.{Sig}
use Rattle.termios_core.specs.declared.termios.Termios.{Termios}
use Rattle.line_disc.specs.Echo.{shown_byte, shown, echo, erase_echo, drop_line_echo}
use Rattle.line_disc.specs.Discipline.{ReadyLine, Input, Discipline, bytes}
use Rattle.line_disc.specs.Cook.{put_whole, strip, is_flow, set_flow, flush, interrupt, signal_of, erase, erase_last, drop_line, end_file, end_line, add_byte}
use Rattle.line_disc.specs.Cook.{cook_by_case, cook}
use Rattle.line_disc.specs.Transfers.{has_none, waits, front, input_after, fit_count}
use Rattle.line_disc.specs.declared.place.PlaceKind.{PlaceKind}
use Rattle.line_disc.specs.declared.place.PlaceKind.TheVariants.{Byte, LineEnd, FileEnd}
use Rattle.line_disc.specs.Places.{InputState, input_of, places_in, with_back, walk, all_bytes}
use Rattle.line_disc.proofs.LineLemmas.{ReadsLine, ReadsBytes, all_bytes-push}
use Rattle.line_disc.proofs.InputLemmas.{reads_line, reads_bytes}
use Rattle.line_disc.specs.Disc.{DiscState, discipline_of, blocks_of, KeepsBlocks}

-- what contracts see of a discipline with these parts
abbrev pub disc_state : Termios → InputState → ChainState → Bool → DiscState
disc_state termios input output stopped = record { termios = termios; input = input; output = output; stopped = stopped }

-- the blocks of each queue are of the pool
pub input_of_pool : (pool : PoolState) (d : DiscState) → AreOf pool (blocks_of d) → AreOf pool d.input.chain.blocks
input_of_pool pool d of_pool = leased_part pool d.input.chain.blocks d.output.blocks of_pool

pub output_of_pool : (pool : PoolState) (d : DiscState) → AreOf pool (blocks_of d) → AreOf pool d.output.blocks
output_of_pool pool d of_pool =
    leased_part pool d.output.blocks d.input.chain.blocks
    (leased_rearranged pool (d.input.chain.blocks ++ d.output.blocks) (d.output.blocks ++ d.input.chain.blocks)
    (times_swapped d.input.chain.blocks d.output.blocks) of_pool)

-- a write to the blocks of one queue leaves the other
pub output_stays : (old new : PoolState) (d : DiscState) → AreOf old (blocks_of d) → WritesTo d.input.chain.blocks old new
    → holds new d.output ≡ holds old d.output
output_stays old new d of_pool writes =
    holds_apart d.input.chain.blocks old new d.output writes (leases_apart old d.input.chain.blocks d.output.blocks of_pool)

pub input_stays : (old new : PoolState) (d : DiscState) → AreOf old (blocks_of d) → WritesTo d.output.blocks old new
    → input_of new d.input ≡ input_of old d.input
unfolding input_of places_in
input_stays old new d of_pool writes =
    let apart = leases_apart old d.input.chain.blocks d.output.blocks of_pool in
    let same = holds_apart d.output.blocks old new d.input.chain writes (λ n here there. apart n there here) in
    rw same refl

-- blocks that were of the pool are of it after a call
pub keeps_of_pool : (old new : PoolState) (d e : DiscState) → AreOf old (blocks_of d) → KeepsBlocks old new d e → AreOf new (blocks_of e)
keeps_of_pool old new d e of_pool keeps =
    rw (keeps.input, keeps.output) (leased_written (blocks_of d) old new (blocks_of d) keeps.writes of_pool)

-- two calls one after the other
pub keeps_in_turn : (old middle new : PoolState) (d e f : DiscState) → KeepsBlocks old middle d e → KeepsBlocks middle new e f → KeepsBlocks old new d f
keeps_in_turn old middle new d e f first second =
    let same : blocks_of e ≡ blocks_of d = rw (first.input, first.output) refl in
    record {
      input = second.input ∙ first.input;
      output = second.output ∙ first.output;
      writes = writes_in_turn (blocks_of d) old middle new first.writes (rw (← same) second.writes);
    }

pub map_same : (xs : List ℕ) → map (λ b. b) xs ≡ xs
map_same [] = refl
map_same (x ∷ xs) = ap (λ (ys : List ℕ). x ∷ ys) (map_same xs)

-- A call that changes one queue.

-- it writes to the blocks of the input alone
pub keeps_by_input : (old new : PoolState) (d e : DiscState) → e.input.chain.blocks ≡ d.input.chain.blocks → e.output ≡ d.output
    → WritesTo d.input.chain.blocks old new
    → KeepsBlocks old new d e
keeps_by_input old new d e blocks same writes = record {
  input = blocks;
  output = ap (λ (c : ChainState). c.blocks) same;
  writes =
      writes_wider d.input.chain.blocks (blocks_of d) old new (λ n here. Contains-append_left d.input.chain.blocks d.output.blocks n here) writes;
}

-- or to those of the output
pub keeps_by_output : (old new : PoolState) (d e : DiscState) → e.input ≡ d.input → e.output.blocks ≡ d.output.blocks → WritesTo d.output.blocks old new
    → KeepsBlocks old new d e
keeps_by_output old new d e same blocks writes = record {
  input = ap (λ (i : InputState). i.chain.blocks) same;
  output = blocks;
  writes =
      writes_wider d.output.blocks (blocks_of d) old new (λ n here. Contains-append_right d.input.chain.blocks d.output.blocks n here) writes;
}

-- the line with another input
pub input_changes : (old new : PoolState) (d e : DiscState) (t : Termios) (i : Input ℕ) → AreOf old (blocks_of d) → WritesTo d.input.chain.blocks old new
    → e.termios ≡ t → e.output ≡ d.output → e.stopped ≡ d.stopped → input_of new e.input ≡ i
    → discipline_of new e ≡ record { termios = t; input = i; output = holds old d.output; stopped = d.stopped }
input_changes old new d e t i of_pool writes termios output stopped input =
    let held : holds new e.output ≡ holds old d.output = ap (holds new) output ∙ output_stays old new d of_pool writes in
    rw (termios, input, held, stopped) refl

-- the line with another output
pub output_changes : (old new : PoolState) (d e : DiscState) (out : List ℕ) → AreOf old (blocks_of d) → WritesTo d.output.blocks old new → e.termios ≡ d.termios
    → e.input ≡ d.input → e.stopped ≡ d.stopped → holds new e.output ≡ out
    → discipline_of new e ≡ record { termios = d.termios; input = input_of old d.input; output = out; stopped = d.stopped }
output_changes old new d e out of_pool writes termios input stopped held =
    let same : input_of new e.input ≡ input_of old d.input = ap (input_of new) input ∙ input_stays old new d of_pool writes in
    rw (termios, same, held, stopped) refl

-- What is put whole.

pub puts_whole : (d : Discipline ℕ) (out : List ℕ) → length d.output + length (shown d.termios out) ≤ 4096
    → record d { output = d.output ++ shown d.termios out } ≡ put_whole bytes d out
puts_whole d out fits =
    let test : nat_le (length d.output + length (shown d.termios out)) 4096 ≡ true = grind (arith, nat_tests) in
    rw (test, map_same (shown d.termios out)) refl

pub puts_nothing : (d : Discipline ℕ) (out : List ℕ) → 4096 < length d.output + length (shown d.termios out) → d ≡ put_whole bytes d out
puts_nothing d out fits =
    let test : nat_le (length d.output + length (shown d.termios out)) 4096 ≡ false = grind (arith, nat_tests) in
    rw test refl

-- The cases of a byte, from what each step makes of the line.

pub adds : (d₀ d₁ d₂ : Discipline ℕ) (b : ℕ) (out : List ℕ) → out ≡ echo d₀.termios b → d₁ ≡ record d₀ { input = with_back Byte b d₀.input }
    → d₂ ≡ put_whole bytes d₁ out → d₂ ≡ add_byte bytes d₀ b
unfolding add_byte
adds d₀ d₁ d₂ b out echoed first second = second ∙ ap₂ (λ (d : Discipline ℕ) (o : List ℕ). put_whole bytes d o) first echoed

pub ends_line : (d₀ d₁ d₂ : Discipline ℕ) (b : ℕ) (out : List ℕ) → out ≡ echo d₀.termios b → d₁ ≡ record d₀ { input = with_back LineEnd b d₀.input }
    → d₂ ≡ put_whole bytes d₁ out → d₂ ≡ end_line bytes d₀ b
unfolding end_line
ends_line d₀ d₁ d₂ b out echoed first second = second ∙ ap₂ (λ (d : Discipline ℕ) (o : List ℕ). put_whole bytes d o) first echoed

pub ends_file : (d₀ d₁ : Discipline ℕ) (b : ℕ) → d₁ ≡ record d₀ { input = with_back FileEnd b d₀.input } → d₁ ≡ end_file d₀
unfolding end_file
ends_file d₀ d₁ b first = first

pub interrupts : (d₀ d₁ d₂ : Discipline ℕ) (b : ℕ) (flushes : Bool) (out : List ℕ) → out ≡ echo d₀.termios b → flushes ≡ not d₀.termios.flags.noflsh
    → d₁ ≡ flush d₀ flushes flushes → d₂ ≡ put_whole bytes d₁ out → d₂ ≡ interrupt bytes d₀ b
unfolding interrupt
interrupts d₀ d₁ d₂ b flushes out echoed test first second =
    second ∙ ap₂ (λ (d : Discipline ℕ) (o : List ℕ). put_whole bytes d o) (first ∙ ap (λ (t : Bool). flush d₀ t t) test) echoed

pub drops_line : (d₀ d₁ d₂ : Discipline ℕ) (b : ℕ) (out : List ℕ) → out ≡ drop_line_echo d₀.termios b
    → d₁ ≡ record d₀ { input = record { ready = d₀.input.ready; current = [] } } → d₂ ≡ put_whole bytes d₁ out → d₂ ≡ drop_line bytes d₀ b
unfolding drop_line
drops_line d₀ d₁ d₂ b out echoed first second = second ∙ ap₂ (λ (d : Discipline ℕ) (o : List ℕ). put_whole bytes d o) first echoed

-- the last byte of a list
reverse_ends : (xs : List ℕ) (x : ℕ) → reverse (xs ++ x ∷ []) ≡ x ∷ reverse xs
reverse_ends xs x = reverse-append xs (x ∷ [])

pub erases_nothing : (d : Discipline ℕ) (b : ℕ) → d.input.current ≡ [] → d ≡ erase bytes d b
unfolding erase
erases_nothing d b none = ap (λ (xs : List ℕ). erase_last bytes d b (reverse xs)) (sym none)

pub erases : (d₀ d₁ d₂ : Discipline ℕ) (b removed : ℕ) (before : List ℕ) (out : List ℕ) → d₀.input.current ≡ before ++ removed ∷ []
    → out ≡ erase_echo d₀.termios b removed → d₁ ≡ record d₀ { input = record { ready = d₀.input.ready; current = before } }
    → d₂ ≡ put_whole bytes d₁ out → d₂ ≡ erase bytes d₀ b
unfolding erase
erases d₀ d₁ d₂ b removed before out current echoed first second =
    second ∙ ap₂ (λ (d : Discipline ℕ) (o : List ℕ). put_whole bytes d o) first echoed
    ∙ ap (λ (xs : List ℕ). put_whole bytes (record d₀ { input = record { ready = d₀.input.ready; current = xs } }) (erase_echo d₀.termios b removed))
    (sym (reverse-reverse before))
    ∙ ap (erase_last bytes d₀ b) (sym (ap (λ (xs : List ℕ). reverse xs) current ∙ reverse_ends before removed))

-- an input by its parts
pub same_input : (i : Input ℕ) (ready : List (ReadyLine ℕ)) (current : List ℕ) → i.ready ≡ ready → i.current ≡ current
    → i ≡ record { ready = ready; current = current }
same_input i ready current r c = rw (← r, ← c) refl

pub nothing_more : (xs ys : List ℕ) → ys ≡ xs ++ [] → xs ≡ ys
nothing_more xs ys same = sym (append-nil xs) ∙ sym same

pub push_bytes : (ks new : List PlaceKind) (k : PlaceKind) → new ≡ ks ++ k ∷ [] → all_bytes ks ≡ true → k ≡ Byte → all_bytes new ≡ true
push_bytes ks new k is all byte =
    ap all_bytes (is ∙ ap (λ (x : PlaceKind). ks ++ x ∷ []) byte) ∙ all_bytes-push ks Byte ∙ all

pub cooks_flow : (d₀ d₁ : Discipline ℕ) (b : ℕ) → is_flow d₀.termios (strip d₀.termios b) ≡ true → d₁ ≡ set_flow d₀ (strip d₀.termios b)
    → (d₁ ≡ (cook bytes d₀ b).0) × (let none : Option Sig = None in none ≡ (cook bytes d₀ b).1)
unfolding cook
cooks_flow d₀ d₁ b flow same = (rw flow same, rw flow refl)

pub cooks : (d₀ d₁ : Discipline ℕ) (b : ℕ) (signal : Option Sig) → is_flow d₀.termios (strip d₀.termios b) ≡ false
    → signal ≡ signal_of d₀.termios (strip d₀.termios b) → d₁ ≡ cook_by_case bytes d₀ (strip d₀.termios b) signal
    → (d₁ ≡ (cook bytes d₀ b).0) × (signal ≡ (cook bytes d₀ b).1)
unfolding cook
cooks d₀ d₁ b signal flow is same =
    (rw flow (same ∙ ap (cook_by_case bytes d₀ (strip d₀.termios b)) is), rw flow is)

-- What is read.

none_is_nil : (xs : List (ReadyLine ℕ)) → has_none xs ≡ true → xs ≡ []
none_is_nil [] none = refl
none_is_nil (x ∷ xs) none = cc

-- what a read gives and leaves that does not wait
pub record Reads (d : Discipline ℕ) (max : ℕ) (out : List ℕ) (left : Input ℕ) : Type 0 where
  pub front_is : out ≡ front d max
  pub rest_is : left ≡ input_after d max
  pub stays_bytes : d.termios.flags.icanon ≡ false → has_none left.ready ≡ true

reads_by : (icanon : Bool) (d : Discipline ℕ) (max : ℕ) (out : List ℕ) (left : Input ℕ) → d.termios.flags.icanon ≡ icanon
    → (icanon ≡ false → has_none d.input.ready ≡ true) → waits d max ≡ false
    → (has_none d.input.ready ≡ false → ReadsLine d.input max out left) → (has_none d.input.ready ≡ true → ReadsBytes d.input max out left)
    → Reads d max out left
reads_by true d max out left is bytes_only waiting line byte =
    let some : has_none d.input.ready ≡ false =
    sym (ap (λ (t : Bool). if t then has_none d.input.ready else nat_lt (length d.input.current) (min d.termios.min max)) is) ∙ waiting in
    let read = line some in
    record {
      front_is = rw is read.front_is;
      rest_is = rw is (same_input left _ _ read.ready_is read.current_is);
      stays_bytes = λ e. cc;
    }
reads_by false d max out left is bytes_only waiting line byte =
    let none = bytes_only refl in
    let read = byte none in
    let nil = none_is_nil d.input.ready none in
    record {
      front_is = rw is read.front_is;
      rest_is = rw (is, nil) read.rest_is;
      stays_bytes = λ e. rw read.rest_is refl;
    }

pub reads : (pool : PoolState) (s t : InputState) (d : Discipline ℕ) (max : ℕ) (out : List ℕ) → d.input ≡ input_of pool s
    → out ≡ (walk max (places_in pool s)).0
    → places_in pool t ≡ (walk max (places_in pool s)).1 → (d.termios.flags.icanon ≡ false → has_none (input_of pool s).ready ≡ true) → waits d max ≡ false
    → Reads d max out (input_of pool t)
reads pool s t d max out is g l bytes_only waiting =
    reads_by d.termios.flags.icanon d max out (input_of pool t) refl (λ e. rw is (bytes_only e)) waiting
    (λ some. rw is (reads_line pool s t max out g l (sym (ap (λ (i : Input ℕ). has_none i.ready) is) ∙ some)))
    (λ none. rw is (reads_bytes pool s t max out g l (sym (ap (λ (i : Input ℕ). has_none i.ready) is) ∙ none)))

-- What is written, byte by byte.

pub fit_count_more : (t : Termios) (room i : ℕ) (bs : List ℕ) → i < length bs → length (shown_byte t (get_or bs i 0)) ≤ room
    → fit_count t room (drop i bs) ≡ 1 + fit_count t (room - length (shown_byte t (get_or bs i 0))) (drop (i + 1) bs)
fit_count_more t room i bs inside fits =
    let test : nat_le (length (shown_byte t (get_or bs i 0))) room ≡ true = grind (arith, nat_tests) in
    rw (add-one, drop-cons bs i 0, test) refl

pub fit_count_stops : (t : Termios) (room i : ℕ) (bs : List ℕ) → i < length bs → room < length (shown_byte t (get_or bs i 0)) → fit_count t room (drop i bs) ≡ 0
fit_count_stops t room i bs inside fits =
    let test : nat_le (length (shown_byte t (get_or bs i 0))) room ≡ false = grind (arith, nat_tests) in
    rw (drop-cons bs i 0, test) refl

pub shown_more : (t : Termios) (i : ℕ) (bs : List ℕ) → i < length bs → shown t (take (i + 1) bs) ≡ shown t (take i bs) ++ shown_byte t (get_or bs i 0)
shown_more t i bs inside =
    ap (shown t) (take_more bs i 0 inside) ∙ flat_map-append (shown_byte t) (take i bs) (get_or bs i 0 ∷ [])
    ∙ ap (λ (xs : List ℕ). shown t (take i bs) ++ xs) (append-nil (shown_byte t (get_or bs i 0)))

fits_where : (test : Bool) (t : Termios) (room : ℕ) (b : ℕ) (bs : List ℕ) → nat_le (length (shown_byte t b)) room ≡ test
    → length (shown t (take (fit_count t (room - length (shown_byte t b)) bs) bs)) ≤ room - length (shown_byte t b)
    → length (shown t (take (if test then 1 + fit_count t (room - length (shown_byte t b)) bs else 0) (b ∷ bs))) ≤ room
fits_where true t room b bs is rest =
    let n : ℕ = fit_count t (room - length (shown_byte t b)) bs in
    let more : 1 + fit_count t (room - length (shown_byte t b)) bs ≡ suc (fit_count t (room - length (shown_byte t b)) bs) = omega arith in
    let fits : length (shown_byte t b) ≤ room = grind (arith, nat_tests) in
    let joined = length-append (shown_byte t b) (shown t (take (fit_count t (room - length (shown_byte t b)) bs) bs)) in
    rw more (omega (arith, joined, rest, fits))
fits_where false t room b bs is rest = omega arith

pub fit_count_fits : (t : Termios) (room : ℕ) (bs : List ℕ) → length (shown t (take (fit_count t room bs) bs)) ≤ room
fit_count_fits t room [] = omega arith
fit_count_fits t room (b ∷ bs) =
    fits_where (nat_le (length (shown_byte t b)) room) t room b bs refl (fit_count_fits t (room - length (shown_byte t b)) bs)

pub fit_count_all : (t : Termios) (room : ℕ) (bs : List ℕ) → length (shown t bs) ≤ room → fit_count t room bs ≡ length bs
fit_count_all t room [] fits = refl
fit_count_all t room (b ∷ bs) fits =
    let joined = length-append (shown_byte t b) (shown t bs) in
    let here : length (shown_byte t b) ≤ room = omega (arith, joined, fits) in
    let test : nat_le (length (shown_byte t b)) room ≡ true = grind (arith, nat_tests) in
    let rest = fit_count_all t (room - length (shown_byte t b)) bs (omega (arith, joined, fits)) in
    rw test (omega (arith, rest))

-- what is written to other blocks leaves a discipline
pub discipline_stays : (own : List ℕ) (old new : PoolState) (d : DiscState) → WritesTo own old new → AreApart own (blocks_of d)
    → discipline_of new d ≡ discipline_of old d
unfolding input_of places_in
discipline_stays own old new d writes apart =
    let input = holds_apart own old new d.input.chain writes
    (λ n here there. apart n here (Contains-append_left d.input.chain.blocks d.output.blocks n there)) in
    let output = holds_apart own old new d.output writes
    (λ n here there. apart n here (Contains-append_right d.input.chain.blocks d.output.blocks n there)) in
    rw (input, output) refl

pub ruleset disc = (input_of_pool, output_of_pool, keeps_of_pool, keeps_in_turn, map_same)
