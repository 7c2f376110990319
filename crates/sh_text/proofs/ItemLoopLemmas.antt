-- Items of a command, one after the other.
use Rattle.std.proofs.Common.{◌≡◌, ℕ, zero, suc, ◌≤◌, ◌<◌, true, false, List, [], ◌∷◌, length, Result, Ok, Err, refl, sym, ◌∙◌, arith}
use Rattle.sh_text.specs.declared.fault.Stop.{Stop}
use Rattle.sh_text.specs.declared.fault.Halt.{Halt}
use Rattle.sh_text.specs.declared.fault.Halt.TheVariants as halt
use Rattle.sh_text.specs.declared.tree.Command.{Command}
use Rattle.sh_text.specs.Bytes.{after_blanks}
use Rattle.sh_text.specs.Reading.{◌>>=◌, Gives, begins_item, item_at, items_within, items_at, no_items}

-- the command so far and the bytes that are left give what the whole gives
pub record ItemsLeft (whole : Result (Command × List ℕ) Stop) (command : Command) (rest : List ℕ) : Type 0 where
  pub bound : ℕ
  pub enough : length rest ≤ bound
  pub value : items_within bound command rest ≡ whole

pub items_begin : (bytes : List ℕ) → ItemsLeft (items_at bytes) no_items (after_blanks bytes)
unfolding items_at
items_begin bytes = record { bound = length (after_blanks bytes); enough = omega arith; value = refl }

none_begins : (command : Command) (rest : List ℕ) → length rest ≤ 0 → begins_item command rest ≡ true → ⊥
none_begins command [] none begins = absurd cc
none_begins command (b ∷ rest) none begins = absurd (omega (arith, none))

within_end : (k : ℕ) (command : Command) (rest : List ℕ) → begins_item command rest ≡ false → items_within k command rest ≡ Ok (command, rest)
unfolding items_within
within_end zero command rest ends = refl
within_end (suc k) command rest ends = rw ends refl

within_step : (k : ℕ) (command : Command) (rest : List ℕ) → begins_item command rest ≡ true
    → items_within (suc k) command rest ≡ (item_at command rest >>= λ longer. items_within k longer.0 (after_blanks longer.1))
unfolding items_within
within_step k command rest begins = rw begins refl

-- the steps of a loop

pub items_end : (whole : Result (Command × List ℕ) Stop) (command : Command) (rest : List ℕ) → ItemsLeft whole command rest → begins_item command rest ≡ false
    → whole ≡ Ok (command, rest)
items_end whole command rest left ends = sym left.value ∙ within_end left.bound command rest ends

fault_within : (k : ℕ) (command : Command) (rest : List ℕ) (s : Stop) → length rest ≤ k → begins_item command rest ≡ true → item_at command rest ≡ Err s
    → items_within k command rest ≡ Err s
fault_within zero command rest s enough begins e = absurd (none_begins command rest enough begins)
fault_within (suc k) command rest s enough begins e = within_step k command rest begins ∙ rw e refl

pub items_fault : {X : Type 0} (view : X → Command × List ℕ) (whole : Result (Command × List ℕ) Stop) (command : Command) (rest : List ℕ) (s : Halt)
    → ItemsLeft whole command rest → begins_item command rest ≡ true → Gives view (Err s) (item_at command rest) → Gives view (Err s) whole
items_fault view whole command rest (halt.Text s) left begins e = sym left.value ∙ fault_within left.bound command rest s left.enough begins e
items_fault view whole command rest halt.OutOfMemory left begins e = tt

more_within : (whole : Result (Command × List ℕ) Stop) (k : ℕ) (command longer : Command) (rest after : List ℕ) → length rest ≤ k
    → items_within k command rest ≡ whole → begins_item command rest ≡ true → item_at command rest ≡ Ok (longer, after)
    → length (after_blanks after) < length rest → ItemsLeft whole longer (after_blanks after)
more_within whole zero command longer rest after enough value begins e less = absurd (none_begins command rest enough begins)
more_within whole (suc k) command longer rest after enough value begins e less =
    let step : items_within (suc k) command rest ≡ items_within k longer (after_blanks after) = within_step k command rest begins ∙ rw e refl in
    record { bound = k; enough = omega (arith, enough, less); value = sym step ∙ value }

pub items_more : (whole : Result (Command × List ℕ) Stop) (command longer : Command) (rest after next : List ℕ) → ItemsLeft whole command rest
    → begins_item command rest ≡ true → item_at command rest ≡ Ok (longer, after) → next ≡ after_blanks after → length next < length rest
    → ItemsLeft whole longer next
items_more whole command longer rest after next left begins e is_next less =
    let less2 : length (after_blanks after) < length rest = rw (← is_next) less in
    rw is_next (more_within whole left.bound command longer rest after left.enough left.value begins e less2)
