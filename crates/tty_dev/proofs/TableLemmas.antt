-- The lines of a kernel by their numbers: what a call on one makes of all.
use Rattle.std.proofs.Common.{◌≡◌, ℕ, zero, suc, ◌+◌, ◌-◌, ◌*◌, ◌↔◌, ◌<◌, Bool, true, false, not, ◌&&◌, List, [], ◌∷◌, ◌++◌, length, map, set, get_or, cond}
use Rattle.std.proofs.Common.{Option, Some, None, option_map, refl, sym, ap, ap₂, ◌∙◌, arith, append-nil, length-append}
use Rattle.std.specs.Prelude.{is_some, is_none, nat_lt, nat_le, count_by, if◌then◌else◌, unwrap_or, option_and_then, Result, Ok, Err, OnOk, OnErr, IfOk}
use Rattle.std.specs.List.{All}
use Rattle.std.proofs.lemmas.List.{map-set, length-map, set-get_or}
use Rattle.std.proofs.lemmas.List.Elements.{All-set, All-head, All-tail}
use Rattle.std.proofs.lemmas.List.Sums.{sum_by-cons}
use Rattle.std.proofs.lemmas.Bool.Decides.{nat_tests}
use Rattle.termios_core.specs.declared.termios.Termios.{Termios}
use Rattle.block_pool.specs.Pool.{PoolState, times, AreOf, Lends, WritesTo}
use Rattle.block_pool.specs.Others.{SameContents, KeepsOthers}
use Rattle.block_pool.proofs.TimesLemmas.{times-append}
use Rattle.block_pool.proofs.LeaseLemmas.{leased_part, leased_rearranged}
use Rattle.block_pool.proofs.CircleLemmas.{holds_same}
use Rattle.block_pool.proofs.OthersLemmas.{same_front, same_rest, keeps_others_still, keeps_others_written, keeps_others_lent, keeps_others_returned}
use Rattle.block_pool.proofs.OthersLemmas.{keeps_others_rearranged, keeps_others_beside}
use Rattle.line_disc.specs.Discipline.{Discipline, bytes}
use Rattle.line_disc.specs.Transfers as transfers
use Rattle.line_disc.specs.Device.{Device, is_live, closed_device, open_file, close_last, revoke, put, put_count, read, after_read}
use Rattle.line_disc.specs.Lines.{line_at, change_line}
use Rattle.line_disc.specs.Places.{input_of, places_in}
use Rattle.line_disc.specs.Disc.{DiscState, discipline_of, blocks_of}
use Rattle.tty_dev.specs.Line.{LineState, device_of, blocks_in, held_by, is_dead, is_last, live_after, KeepsCounts, AddsOneFile, new_blocks}
use Rattle.tty_dev.specs.History.{Use, Counts, at_first, closes, after_use}
use Rattle.tty_dev.specs.Table.{devices, lines_held, counts_of, boots_of, count_at, use_line, HoldsBlocks, KeepsLine, KeepsLines}

-- the counts of one line
abbrev pub counts_in : LineState → Counts
counts_in line = record { generation = line.generation; live = line.live }

-- What stands under a number.

map-at : {X Y : Type 0} (f : X → Y) (xs : List X) (n : ℕ) (d : X) (e : Y) → n < length xs → get_or (map f xs) n e ≡ f (get_or xs n d)
map-at f [] n d e within = absurd (omega arith)
map-at f (x ∷ xs) zero d e within = refl
map-at f (x ∷ xs) (suc n) d e within = map-at f xs n d e (omega arith)

device-at_n : (pool : PoolState) (lines : List LineState) (n : ℕ) (d : LineState) → n < length lines
    → line_at (devices pool lines) n ≡ device_of pool (get_or lines n d)
unfolding devices
device-at_n pool lines n d within = map-at (device_of pool) lines n d closed_device within

counts-at_n : (lines : List LineState) (n : ℕ) (d : LineState) → n < length lines → count_at (counts_of lines) n ≡ counts_in (get_or lines n d)
unfolding counts_of
counts-at_n lines n d within = map-at counts_in lines n d at_first within

boot-at_n : (lines : List LineState) (n : ℕ) (d : LineState) (b : Bool) → n < length lines → get_or (boots_of lines) n b ≡ (get_or lines n d).is_cooked
unfolding boots_of
boot-at_n lines n d b within = map-at (λ (line : LineState). line.is_cooked) lines n d b within

pub length-devices : (pool : PoolState) (lines : List LineState) → length (devices pool lines) ≡ length lines
unfolding devices
length-devices pool lines = length-map lines (device_of pool)

pub length-counts : (lines : List LineState) → length (counts_of lines) ≡ length lines
unfolding counts_of
length-counts lines = length-map lines counts_in

pub length-boots : (lines : List LineState) → length (boots_of lines) ≡ length lines
unfolding boots_of
length-boots lines = length-map lines (λ (line : LineState). line.is_cooked)

-- What is in the blocks of lines.

discipline_same : (old new : PoolState) (d : DiscState) → SameContents (blocks_of d) old new → discipline_of new d ≡ discipline_of old d
unfolding input_of places_in
discipline_same old new d same =
    let input = holds_same old new d.input.chain (same_front d.input.chain.blocks d.output.blocks old new same) in
    let output = holds_same old new d.output (same_rest d.input.chain.blocks d.output.blocks old new same) in
    rw (input, output) refl

disciplines_same : (old new : PoolState) (o : Option DiscState) → SameContents (blocks_in o) old new
    → option_map (discipline_of new) o ≡ option_map (discipline_of old) o
disciplines_same old new None same = refl
disciplines_same old new (Some d) same = ap (λ (x : Discipline ℕ). Some x) (discipline_same old new d same)

pub device_same : (old new : PoolState) (line : LineState) → SameContents (held_by line) old new → device_of new line ≡ device_of old line
device_same old new line same =
    ap
    (λ (o : Option (Discipline ℕ)). record {
      discipline = o;
      carrier = line.carrier;
      zombie = line.zombie;
      ended = line.ended;
      session = line.session;
      foreground = line.foreground;
    })
    (disciplines_same old new line.disc same)

-- lines whose blocks have the same in them are the same devices
pub devices_same : (old new : PoolState) (lines : List LineState) → SameContents (lines_held lines) old new → devices new lines ≡ devices old lines
unfolding devices lines_held
devices_same old new [] same = refl
devices_same old new (line ∷ lines) same =
    ap₂ (λ (d : Device ℕ) (ds : List (Device ℕ)). d ∷ ds) (device_same old new line (same_front (held_by line) (lines_held lines) old new same))
    (devices_same old new lines (same_rest (held_by line) (lines_held lines) old new same))

-- The blocks of all lines but one.

beside : List LineState → ℕ → List ℕ
beside [] n = []
beside (line ∷ lines) zero = lines_held lines
beside (line ∷ lines) (suc n) = held_by line ++ beside lines n

-- they and those of that line are those of all
times-held : (b : ℕ) (lines : List LineState) (n : ℕ) (d : LineState) → n < length lines
    → times b (lines_held lines) ≡ times b (held_by (get_or lines n d) ++ beside lines n)
unfolding lines_held beside
times-held b [] n d within = absurd (omega arith)
times-held b (line ∷ lines) zero d within = refl
times-held b (line ∷ lines) (suc n) d within =
    let rest = times-held b lines n d (omega arith) in
    omega (
      arith,
      rest,
      times-append b (held_by line) (lines_held lines),
      times-append b (held_by line) (beside lines n),
      times-append b (held_by (get_or lines n d)) (beside lines n),
      times-append b (held_by (get_or lines n d)) (held_by line ++ beside lines n),
    )

-- also where it has changed
times-held_changed : (b : ℕ) (lines : List LineState) (n : ℕ) (line : LineState) → n < length lines
    → times b (lines_held (set lines n line)) ≡ times b (held_by line ++ beside lines n)
unfolding lines_held beside
times-held_changed b [] n line within = absurd (omega arith)
times-held_changed b (first ∷ lines) zero line within = refl
times-held_changed b (first ∷ lines) (suc n) line within =
    let rest = times-held_changed b lines n line (omega arith) in
    omega (
      arith,
      rest,
      times-append b (held_by first) (lines_held (set lines n line)),
      times-append b (held_by first) (beside lines n),
      times-append b (held_by line) (beside lines n),
      times-append b (held_by line) (held_by first ++ beside lines n),
    )

-- the blocks of a line are of the pool that those of all are of
one_of_pool_n : (pool : PoolState) (lines : List LineState) (n : ℕ) (d : LineState) → n < length lines → AreOf pool (lines_held lines)
    → AreOf pool (held_by (get_or lines n d))
one_of_pool_n pool lines n d within all =
    leased_part pool (held_by (get_or lines n d)) (beside lines n)
    (leased_rearranged pool (lines_held lines) (held_by (get_or lines n d) ++ beside lines n) (λ b. times-held b lines n d within) all)

-- what others keep over a call on one line
others_keep : (old new : PoolState) (lines : List LineState) (n : ℕ) (d line : LineState) → n < length lines
    → KeepsOthers (held_by (get_or lines n d)) (held_by line) old new → KeepsOthers (lines_held lines) (lines_held (set lines n line)) old new
others_keep old new lines n d line within keeps =
    keeps_others_rearranged (held_by (get_or lines n d) ++ beside lines n) (held_by line ++ beside lines n) (lines_held lines) (lines_held
    (set lines n line)) old
    new (λ b. times-held b lines n d within) (λ b. sym (times-held_changed b lines n line within))
    (keeps_others_beside (held_by (get_or lines n d)) (held_by line) (beside lines n) old new keeps)

-- A call on one line, as one on all.

devices-set : (old new : PoolState) (lines : List LineState) (n : ℕ) (line : LineState) → SameContents (beside lines n) old new
    → devices new (set lines n line) ≡ set (devices old lines) n (device_of new line)
unfolding devices beside
devices-set old new [] n line same = refl
devices-set old new (first ∷ lines) zero line same = ap (λ (ds : List (Device ℕ)). device_of new line ∷ ds) (devices_same old new lines same)
devices-set old new (first ∷ lines) (suc n) line same =
    ap₂ (λ (d : Device ℕ) (ds : List (Device ℕ)). d ∷ ds) (device_same old new first (same_front (held_by first) (beside lines n) old new same))
    (devices-set old new lines n line (same_rest (held_by first) (beside lines n) old new same))

-- the other lines are the same
others_same : (old new : PoolState) (lines : List LineState) (n : ℕ) (d line : LineState) → n < length lines → AreOf old (lines_held lines)
    → KeepsLine old new (get_or lines n d) line → SameContents (beside lines n) old new
others_same old new lines n d line within all keeps =
    keeps.others.contents (beside lines n)
    (leased_rearranged old (lines_held lines) (held_by (get_or lines n d) ++ beside lines n) (λ b. times-held b lines n d within) all)

devices_change_n : (old new : PoolState) (lines : List LineState) (n : ℕ) (d line : LineState) (how : Device ℕ → Device ℕ) → n < length lines
    → AreOf old (lines_held lines) → KeepsLine old new (get_or lines n d) line → device_of new line ≡ how (device_of old (get_or lines n d))
    → devices new (set lines n line) ≡ change_line how (devices old lines) n
devices_change_n old new lines n d line how within all keeps is =
    devices-set old new lines n line (others_same old new lines n d line within all keeps)
    ∙ ap (set (devices old lines) n) (is ∙ ap how (sym (device-at_n old lines n d within)))

-- where the line is as it was, all are
devices_stay_n : (old new : PoolState) (lines : List LineState) (n : ℕ) (d line : LineState) → n < length lines → AreOf old (lines_held lines)
    → KeepsLine old new (get_or lines n d) line → device_of new line ≡ device_of old (get_or lines n d) → devices new (set lines n line) ≡ devices old lines
devices_stay_n old new lines n d line within all keeps is =
    devices_change_n old new lines n d line (λ device. device) within all keeps is ∙ set-get_or (devices old lines) n closed_device

-- where the pool is as it was
devices_change_still_n : (pool : PoolState) (lines : List LineState) (n : ℕ) (d line : LineState) (how : Device ℕ → Device ℕ) → n < length lines
    → device_of pool line ≡ how (device_of pool (get_or lines n d)) → devices pool (set lines n line) ≡ change_line how (devices pool lines) n
devices_change_still_n pool lines n d line how within is =
    devices-set pool pool lines n line (λ k e h. refl) ∙ ap (set (devices pool lines) n) (is ∙ ap how (sym (device-at_n pool lines n d within)))

devices_stay_still_n : (pool : PoolState) (lines : List LineState) (n : ℕ) (d line : LineState) → n < length lines
    → device_of pool line ≡ device_of pool (get_or lines n d) → devices pool (set lines n line) ≡ devices pool lines
devices_stay_still_n pool lines n d line within is =
    devices_change_still_n pool lines n d line (λ device. device) within is ∙ set-get_or (devices pool lines) n closed_device

counts_change_n : (lines : List LineState) (n : ℕ) (d line : LineState) (done : Use) → n < length lines
    → counts_in line ≡ after_use (counts_in (get_or lines n d)) done → counts_of (set lines n line) ≡ use_line done (counts_of lines) n
unfolding counts_of
counts_change_n lines n d line done within is =
    map-set counts_in lines n line
    ∙ ap (set (counts_of lines) n) (is ∙ ap (λ (c : Counts). after_use c done) (sym (counts-at_n lines n d within)))

counts_stay_n : (lines : List LineState) (n : ℕ) (d line : LineState) → n < length lines → counts_in line ≡ counts_in (get_or lines n d)
    → counts_of (set lines n line) ≡ counts_of lines
unfolding counts_of
counts_stay_n lines n d line within is =
    map-set counts_in lines n line ∙ ap (set (counts_of lines) n) (is ∙ sym (counts-at_n lines n d within)) ∙ set-get_or (counts_of lines) n at_first

boots_stay : (lines : List LineState) (n : ℕ) (d line : LineState) → n < length lines → line.is_cooked ≡ (get_or lines n d).is_cooked
    → boots_of (set lines n line) ≡ boots_of lines
unfolding boots_of
boots_stay lines n d line within is =
    map-set (λ (l : LineState). l.is_cooked) lines n line
    ∙ ap (set (boots_of lines) n) (is ∙ sym (boot-at_n lines n d false within)) ∙ set-get_or (boots_of lines) n false

lines_keep_n : (old new : PoolState) (lines : List LineState) (n : ℕ) (d line : LineState) → n < length lines → KeepsLine old new (get_or lines n d) line
    → KeepsLines old new lines (set lines n line)
lines_keep_n old new lines n d line within keeps = record {
  boots = boots_stay lines n d line within keeps.boot;
  blocks = λ all. All-set HoldsBlocks lines n line (keeps.blocks (all n d within)) all;
  others = others_keep old new lines n d line within keeps.others;
}

-- What each call on one line keeps.

-- one that opens, closes and revokes nothing
same_blocks : (old new : LineState) → KeepsCounts old new → HoldsBlocks old → HoldsBlocks new
same_blocks old new keeps holds = record {
  live = keeps.is_open ∙ holds.live ∙ ap (nat_lt 0) (sym keeps.live);
  size = ap length keeps.held ∙ holds.size ∙ ap (λ (b : Bool). if b then 40 else 0) (sym keeps.is_open);
}

pub keeps_by_writes : (old_pool new_pool : PoolState) (old new : LineState) → KeepsCounts old new → WritesTo (held_by old) old_pool new_pool
    → KeepsLine old_pool new_pool old new
keeps_by_writes old_pool new_pool old new keeps writes = record {
  boot = keeps.is_cooked;
  blocks = same_blocks old new keeps;
  others = rw keeps.held (keeps_others_written (held_by old) old_pool new_pool writes);
}

pub keeps_still : (pool : PoolState) (old new : LineState) → KeepsCounts old new → KeepsLine pool pool old new
keeps_still pool old new keeps = record {
  boot = keeps.is_cooked;
  blocks = same_blocks old new keeps;
  others = rw keeps.held (keeps_others_still (held_by old) pool);
}

counts_kept : (old new : LineState) → KeepsCounts old new → counts_in new ≡ counts_in old
counts_kept old new keeps = ap₂ (λ (g l : ℕ). record { generation = g; live = l }) keeps.generation keeps.live

-- The same, for a call that counts lines by a number i that is n.

within : (lines : List LineState) (i n : ℕ) → i ≡ n → n < length lines → i < length lines
within lines i n e below = omega (arith, e, below)

pub device-at : (pool : PoolState) (lines : List LineState) (i n : ℕ) (d : LineState) → i ≡ n → n < length lines
    → device_of pool (get_or lines i d) ≡ line_at (devices pool lines) n
device-at pool lines i n d e below = sym (device-at_n pool lines i d (within lines i n e below)) ∙ ap (line_at (devices pool lines)) e

pub counts-at : (lines : List LineState) (i n : ℕ) (d : LineState) → i ≡ n → n < length lines → counts_in (get_or lines i d) ≡ count_at (counts_of lines) n
counts-at lines i n d e below = sym (counts-at_n lines i d (within lines i n e below)) ∙ ap (count_at (counts_of lines)) e

pub boot-at : (lines : List LineState) (i n : ℕ) (d : LineState) → i ≡ n → n < length lines
    → (get_or lines i d).is_cooked ≡ get_or (boots_of lines) n false
boot-at lines i n d e below = sym (boot-at_n lines i d false (within lines i n e below)) ∙ ap (λ k. get_or (boots_of lines) k false) e

pub one_of_pool : (pool : PoolState) (lines : List LineState) (i n : ℕ) (d : LineState) → i ≡ n → n < length lines → AreOf pool (lines_held lines)
    → AreOf pool (held_by (get_or lines i d))
one_of_pool pool lines i n d e below all = one_of_pool_n pool lines i d (within lines i n e below) all

pub devices_change : (old new : PoolState) (lines : List LineState) (i n : ℕ) (d line : LineState) (how : Device ℕ → Device ℕ) → i ≡ n → n < length lines
    → AreOf old (lines_held lines) → KeepsLine old new (get_or lines i d) line → device_of new line ≡ how (device_of old (get_or lines i d))
    → devices new (set lines i line) ≡ change_line how (devices old lines) n
devices_change old new lines i n d line how e below all keeps is =
    devices_change_n old new lines i d line how (within lines i n e below) all keeps is ∙ ap (change_line how (devices old lines)) e

pub devices_stay : (old new : PoolState) (lines : List LineState) (i n : ℕ) (d line : LineState) → i ≡ n → n < length lines → AreOf old (lines_held lines)
    → KeepsLine old new (get_or lines i d) line → device_of new line ≡ device_of old (get_or lines i d) → devices new (set lines i line) ≡ devices old lines
devices_stay old new lines i n d line e below all keeps is = devices_stay_n old new lines i d line (within lines i n e below) all keeps is

pub devices_change_still : (pool : PoolState) (lines : List LineState) (i n : ℕ) (d line : LineState) (how : Device ℕ → Device ℕ) → i ≡ n
    → n < length lines → device_of pool line ≡ how (device_of pool (get_or lines i d)) → devices pool (set lines i line) ≡ change_line how
    (devices pool lines) n
devices_change_still pool lines i n d line how e below is =
    devices_change_still_n pool lines i d line how (within lines i n e below) is ∙ ap (change_line how (devices pool lines)) e

pub devices_stay_still : (pool : PoolState) (lines : List LineState) (i n : ℕ) (d line : LineState) → i ≡ n → n < length lines
    → device_of pool line ≡ device_of pool (get_or lines i d) → devices pool (set lines i line) ≡ devices pool lines
devices_stay_still pool lines i n d line e below is = devices_stay_still_n pool lines i d line (within lines i n e below) is

pub counts_change : (lines : List LineState) (i n : ℕ) (d line : LineState) (done : Use) → i ≡ n → n < length lines
    → counts_in line ≡ after_use (counts_in (get_or lines i d)) done → counts_of (set lines i line) ≡ use_line done (counts_of lines) n
counts_change lines i n d line done e below is =
    counts_change_n lines i d line done (within lines i n e below) is ∙ ap (use_line done (counts_of lines)) e

pub counts_stay : (lines : List LineState) (i n : ℕ) (d line : LineState) → i ≡ n → n < length lines → KeepsCounts (get_or lines i d) line
    → counts_of (set lines i line) ≡ counts_of lines
counts_stay lines i n d line e below keeps = counts_stay_n lines i d line (within lines i n e below) (counts_kept (get_or lines i d) line keeps)

pub lines_keep : (old new : PoolState) (lines : List LineState) (i n : ℕ) (d line : LineState) → i ≡ n → n < length lines
    → KeepsLine old new (get_or lines i d) line → KeepsLines old new lines (set lines i line)
lines_keep old new lines i n d line e below keeps = lines_keep_n old new lines i d line (within lines i n e below) keeps

-- Calls that change nothing.

put_nothing : (d : Discipline ℕ) (written : List ℕ) → transfers.put_count d written ≡ 0 → transfers.put bytes d written ≡ d
unfolding transfers.put
put_nothing d written none = rw none (ap (λ (out : List ℕ). record d { output = out }) (append-nil d.output))

-- a write that puts nothing
pub put_none : (device : Device ℕ) (written : List ℕ) → put_count device written ≡ 0 → put bytes device written ≡ device
put_none device written none =
    ap
    (λ (o : Option (Discipline ℕ)). record device { discipline = o })
    (on device.discipline none)
  where
    on : (o : Option (Discipline ℕ)) → unwrap_or (option_map (λ d. transfers.put_count d written) o) 0 ≡ 0
        → option_map (λ d. transfers.put bytes d written) o ≡ o
    on None none = refl
    on (Some d) none = ap (λ (x : Discipline ℕ). Some x) (put_nothing d written none)

read_nothing : (waiting : Bool) (d : Discipline ℕ) (given : List ℕ) (left : Discipline ℕ) → is_none (if waiting then None else Some given) ≡ true
    → (if waiting then d else left) ≡ d
read_nothing true d given left none = refl
read_nothing false d given left none = cc

-- a read that waits
pub read_none : (device : Device ℕ) (max : ℕ) → read device max ≡ None → after_read device max ≡ device
read_none device max none =
    ap
    (λ (o : Option (Discipline ℕ)). record device { discipline = o })
    (on device.discipline (ap is_none none))
  where
    on : (o : Option (Discipline ℕ)) → is_none (option_and_then (λ d. transfers.read d max) o) ≡ true
        → option_map (λ d. transfers.after_read d max) o ≡ o
    on None none = refl
    on (Some d) none = ap (λ (x : Discipline ℕ). Some x)
        (read_nothing (transfers.waits d max) d (transfers.front d max) (record d { input = transfers.input_after d max }) none)

-- A line that was looked at.

pub device-seen : (pool : PoolState) (lines : List LineState) (i n : ℕ) (line : LineState) → line ≡ get_or lines i line → i ≡ n → n < length lines
    → device_of pool line ≡ line_at (devices pool lines) n
device-seen pool lines i n line is e below = ap (device_of pool) is ∙ device-at pool lines i n line e below

pub counts-seen : (lines : List LineState) (i n : ℕ) (line : LineState) → line ≡ get_or lines i line → i ≡ n → n < length lines
    → counts_in line ≡ count_at (counts_of lines) n
counts-seen lines i n line is e below = ap counts_in is ∙ counts-at lines i n line e below

pub boot-seen : (lines : List LineState) (i n : ℕ) (line : LineState) → line ≡ get_or lines i line → i ≡ n → n < length lines
    → line.is_cooked ≡ get_or (boots_of lines) n false
boot-seen lines i n line is e below = ap (λ (l : LineState). l.is_cooked) is ∙ boot-at lines i n line e below

-- An open, a close and a revoke.

pub some-map : (pool : PoolState) (o : Option DiscState) → is_some (option_map (discipline_of pool) o) ≡ is_some o
some-map pool None = refl
some-map pool (Some d) = refl

-- whether a line is open, by its device
open-as : (pool : PoolState) (line : LineState) (device : Device ℕ) → device_of pool line ≡ device → is_some line.disc ≡ is_some device.discipline
open-as pool line device is = sym (some-map pool line.disc) ∙ ap (λ (d : Device ℕ). is_some d.discipline) is

opens-others : (old new : PoolState) (o : Option DiscState) (held : List ℕ) → (is_some o ≡ true → held ≡ blocks_in o)
    → Lends (if is_some o then [] else held) old new → KeepsOthers (blocks_in o) held old new
opens-others old new None held same lends = keeps_others_lent held old new lends
opens-others old new (Some d) held same lends =
    rw (same refl) (keeps_others_beside [] [] (blocks_of d) old new (keeps_others_lent [] old new lends))

opens-size : (opened : Bool) (old new : ℕ) → (opened ≡ true → new ≡ old) → (opened ≡ false → new ≡ 40) → old ≡ (if opened then 40 else 0) → new ≡ 40
opens-size true old new same size was = same refl ∙ was
opens-size false old new same size was = size refl

pub keeps_open : (old_pool new_pool : PoolState) (boot : Termios) (old new : LineState) → AddsOneFile old new → Lends (new_blocks old new) old_pool new_pool
    → device_of new_pool new ≡ open_file boot (device_of old_pool old) → KeepsLine old_pool new_pool old new
keeps_open old_pool new_pool boot old new adds lends is =
    let now_open : is_some new.disc ≡ true = open-as new_pool new (open_file boot (device_of old_pool old)) is in
    record {
      boot = adds.is_cooked;
      blocks = λ holds. record {
        live = let more : nat_lt 0 (old.live + 1) ≡ true = grind (arith, nat_tests) in now_open ∙ sym (ap (nat_lt 0) adds.live ∙ more);
        size = opens-size (is_some old.disc) (length (held_by old)) (length (held_by new)) (λ already. ap length (adds.held already)) adds.size holds.size
            ∙ ap (λ (b : Bool). if b then 40 else 0) (sym now_open);
      };
      others = opens-others old_pool new_pool old.disc (held_by new) adds.held lends;
    }

closes-others : (last : Bool) (old new : PoolState) (held left : List ℕ) → left ≡ (if last then [] else held) → Lends (if last then held else []) new old
    → KeepsOthers held left old new
closes-others true old new held left is lends = rw is (keeps_others_returned held old new lends)
closes-others false old new held left is lends = rw is (keeps_others_beside [] [] held old new (keeps_others_returned [] old new lends))

closes-open : (last : Bool) (device : Device ℕ) → is_some (if last then close_last device else device).discipline ≡
    (if last then false else is_some device.discipline)
closes-open true device = refl
closes-open false device = refl

closes-blocks : (dead one : Bool) (old new : LineState) → nat_le old.live 1 ≡ one
    → is_some new.disc ≡ (if not dead && one then false else is_some old.disc) → new.live ≡ (if dead then old.live else old.live - 1)
    → held_by new ≡ (if not dead && one then [] else held_by old) → HoldsBlocks old → HoldsBlocks new
closes-blocks true one old new few is_open live held holds = record {
  live = is_open ∙ holds.live ∙ ap (nat_lt 0) (sym live);
  size = ap length held ∙ holds.size ∙ ap (λ (b : Bool). if b then 40 else 0) (sym is_open);
}
closes-blocks false true old new few is_open live held holds = record {
  live = let none : nat_lt 0 (old.live - 1) ≡ false = grind (arith, nat_tests) in is_open ∙ sym (ap (nat_lt 0) live ∙ none);
  size = ap length held ∙ ap (λ (b : Bool). if b then 40 else 0) (sym is_open);
}
closes-blocks false false old new few is_open live held holds = record {
  live = let some : nat_lt 0 (old.live - 1) ≡ true = grind (arith, nat_tests) in
      let was : nat_lt 0 old.live ≡ true = grind (arith, nat_tests) in
      is_open ∙ holds.live ∙ was ∙ sym (ap (nat_lt 0) live ∙ some);
  size = ap length held ∙ holds.size ∙ ap (λ (b : Bool). if b then 40 else 0) (sym is_open);
}

pub keeps_close : (old_pool new_pool : PoolState) (old new : LineState) (opened : ℕ)
    → device_of new_pool new ≡ (if is_last old opened then close_last (device_of old_pool old) else device_of old_pool old)
    → new.live ≡ live_after old opened → new.is_cooked ≡ old.is_cooked → held_by new ≡ (if is_last old opened then [] else held_by old)
    → Lends (if is_last old opened then held_by old else []) new_pool old_pool → KeepsLine old_pool new_pool old new
keeps_close old_pool new_pool old new opened is live boot held lends =
    let still_open =
    open-as new_pool new (if is_last old opened then close_last (device_of old_pool old) else device_of old_pool old) is
    ∙ closes-open (is_last old opened) (device_of old_pool old)
    ∙ ap (λ (b : Bool). if is_last old opened then false else b) (some-map old_pool old.disc) in
    record {
      boot = boot;
      blocks = closes-blocks (is_dead old opened) (nat_le old.live 1) old new refl still_open live held;
      others = closes-others (is_last old opened) old_pool new_pool (held_by old) (held_by new) held lends;
    }

-- the last close changes the line, and another none
pub devices_close : (last at : Bool) (old new : PoolState) (lines : List LineState) (i n : ℕ) (d line : LineState) → last ≡ at → i ≡ n → n < length lines
    → AreOf old (lines_held lines) → KeepsLine old new (get_or lines i d) line
    → device_of new line ≡ (if last then close_last (device_of old (get_or lines i d)) else device_of old (get_or lines i d))
    → devices new (set lines i line) ≡ (if at then change_line close_last (devices old lines) n else devices old lines)
devices_close true at old new lines i n d line same e below all keeps is =
    devices_change old new lines i n d line close_last e below all keeps is
    ∙ ap (λ (b : Bool). if b then change_line close_last (devices old lines) n else devices old lines) same
devices_close false at old new lines i n d line same e below all keeps is =
    devices_stay old new lines i n d line e below all keeps is
    ∙ ap (λ (b : Bool). if b then change_line close_last (devices old lines) n else devices old lines) same

abbrev counting : ℕ → ℕ → Counts
counting generation live = record { generation = generation; live = live }

close-where : (dead : Bool) (generation live g l : ℕ) → g ≡ generation → l ≡ (if dead then live else live - 1)
    → counting g l ≡ (if dead then counting generation live else counting generation (live - 1))
close-where true generation live g l same is = ap₂ counting same is
close-where false generation live g l same is = ap₂ counting same is

pub counts-closed : (old new : LineState) (opened : ℕ) → new.generation ≡ old.generation → new.live ≡ live_after old opened
    → counts_in new ≡ after_use (counts_in old) (closes opened)
counts-closed old new opened generation live =
    close-where (nat_lt opened old.generation) old.generation old.live new.generation new.live generation live

pub keeps_revoke : (old_pool new_pool : PoolState) (old new : LineState) → device_of new_pool new ≡ revoke (device_of old_pool old) → new.live ≡ 0
    → new.is_cooked ≡ old.is_cooked → held_by new ≡ [] → Lends (held_by old) new_pool old_pool → KeepsLine old_pool new_pool old new
keeps_revoke old_pool new_pool old new is live boot held lends =
    let shut : is_some new.disc ≡ false = open-as new_pool new (revoke (device_of old_pool old)) is in
    record {
      boot = boot;
      blocks = λ holds. record {
        live = shut ∙ ap (nat_lt 0) (sym live);
        size = ap length held ∙ ap (λ (b : Bool). if b then 40 else 0) (sym shut);
      };
      others = rw held (keeps_others_returned (held_by old) old_pool new_pool lends);
    }

-- where a line is as it was
pub keeps_same : (old_pool new_pool : PoolState) (old new : LineState) → new ≡ old → new_pool ≡ old_pool → KeepsLine old_pool new_pool old new
keeps_same old_pool new_pool old new same pool =
    rw (same, pool) (record {
      boot = refl;
      blocks = λ holds. holds;
      others = keeps_others_still (held_by old) old_pool;
    })

none-map : (pool : PoolState) (o : Option DiscState) → (option_map (discipline_of pool) o ≡ None) ↔ (o ≡ None)
none-map pool None = (λ e. refl, λ e. refl)
none-map pool (Some d) = (λ e. cc, λ e. cc)

-- whether a line is shut, by its device
pub shut-as : (pool : PoolState) (line : LineState) (device : Device ℕ) → device_of pool line ≡ device → (device.discipline ≡ None) ↔ (line.disc ≡ None)
shut-as pool line device is = (
  λ none. (none-map pool line.disc).0 (ap (λ (d : Device ℕ). d.discipline) is ∙ none),
  λ none. sym (ap (λ (d : Device ℕ). d.discipline) is) ∙ (none-map pool line.disc).1 none,
)

-- a call that comes out in one of two ways
pub either : {T E A B P : Type 0} (r : Result T E) → OnOk r A → OnErr r B → (A → P) → (B → P) → P
either (Ok x) good bad f g = f good
either (Err e) good bad f g = g bad

pub all_three : {T E A B C P : Type 0} (r : Result T E) → OnOk r A → OnOk r B → OnOk r C → (A → B → C → P) → OnOk r P
all_three (Ok x) a b c f = f a b c
all_three (Err e) a b c f = tt

pub answers_same : {E : Type 0} (r : Result ℕ E) (m n : ℕ) → IfOk r (λ k. k ≡ m) → m ≡ n → IfOk r (λ k. k ≡ n)
answers_same (Ok k) m n is same = is ∙ same
answers_same (Err e) m n is same = tt

-- How many blocks lines hold, and which have a discipline.

size-with : (held : Bool) (size rest count : ℕ) → size ≡ (if held then 40 else 0) → rest ≡ 40 * count → size + rest ≡ 40 * (cond held 1 0 + count)
size-with true size rest count is more = omega (arith, is, more)
size-with false size rest count is more = omega (arith, is, more)

pub size_of_all : (pool : PoolState) (lines : List LineState) → All HoldsBlocks lines → length (lines_held lines) ≡ 40 * count_by is_live (devices pool lines)
unfolding devices lines_held
size_of_all pool [] all = refl
size_of_all pool (line ∷ lines) all =
    let first = All-head HoldsBlocks line lines all in
    let rest = size_of_all pool lines (All-tail HoldsBlocks line lines all) in
    let one : length (held_by line) ≡ (if is_live (device_of pool line) then 40 else 0) =
    first.size ∙ ap (λ (b : Bool). if b then 40 else 0) (sym (some-map pool line.disc)) in
    length-append (held_by line) (lines_held lines)
    ∙ size-with (is_live (device_of pool line)) (length (held_by line)) (length (lines_held lines)) (count_by is_live (devices pool lines)) one rest
    ∙ ap (λ n. 40 * n) (sym (sum_by-cons (λ (device : Device ℕ). cond (is_live device) 1 0) (device_of pool line) (devices pool lines)))

pub live_by_counts : (pool : PoolState) (lines : List LineState) (n : ℕ) → All HoldsBlocks lines
    → is_live (line_at (devices pool lines) n) ≡ nat_lt 0 (count_at (counts_of lines) n).live
unfolding devices counts_of
live_by_counts pool [] n all = refl
live_by_counts pool (line ∷ lines) zero all = some-map pool line.disc ∙ (All-head HoldsBlocks line lines all).live
live_by_counts pool (line ∷ lines) (suc n) all = live_by_counts pool lines n (All-tail HoldsBlocks line lines all)

-- Lines one after another.

pub devices-nil : (pool : PoolState) → devices pool [] ≡ []
unfolding devices
devices-nil pool = refl

pub devices-cons : (pool : PoolState) (line : LineState) (lines : List LineState) (device : Device ℕ) (rest : List (Device ℕ)) → device_of pool line ≡ device
    → devices pool lines ≡ rest → devices pool (line ∷ lines) ≡ device ∷ rest
unfolding devices
devices-cons pool line lines device rest is are = ap₂ (λ (d : Device ℕ) (ds : List (Device ℕ)). d ∷ ds) is are

pub counts-nil : counts_of [] ≡ []
unfolding counts_of
counts-nil = refl

pub counts-cons : (line : LineState) (lines : List LineState) (generation live : ℕ) (rest : List Counts) → line.generation ≡ generation → line.live ≡ live
    → counts_of lines ≡ rest → counts_of (line ∷ lines) ≡ counting generation live ∷ rest
unfolding counts_of
counts-cons line lines generation live rest g l are = ap₂ (λ (c : Counts) (cs : List Counts). c ∷ cs) (ap₂ counting g l) are

pub boots-nil : boots_of [] ≡ []
unfolding boots_of
boots-nil = refl

pub boots-cons : (line : LineState) (lines : List LineState) (boot : Bool) (rest : List Bool) → line.is_cooked ≡ boot → boots_of lines ≡ rest
    → boots_of (line ∷ lines) ≡ boot ∷ rest
unfolding boots_of
boots-cons line lines boot rest is are = ap₂ (λ (b : Bool) (bs : List Bool). b ∷ bs) is are

pub held-nil : lines_held [] ≡ []
unfolding lines_held
held-nil = refl

pub held-cons : (line : LineState) (lines : List LineState) → held_by line ≡ [] → lines_held lines ≡ [] → lines_held (line ∷ lines) ≡ []
unfolding lines_held
held-cons line lines is are = ap₂ (λ (xs ys : List ℕ). xs ++ ys) is are
