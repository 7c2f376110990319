-- The changes that events make, of all parts of the machine, on a state and on a view.
use Rattle.std.specs.Prelude.{ℕ, true, List, [], ◌∷◌}
use Rattle.system_model.specs.Parts.{Parts}
use Rattle.system_model.specs.State.{Revokes, State, View}
use Rattle.system_model.specs.Keeping.{Keeping, tagging, seeing}
use Rattle.system_model.specs.FileEffects.{FileEffect, change_files}
use Rattle.system_model.specs.PipeEffects.{PipeEffect, change_pipes}
use Rattle.system_model.specs.LineEffects.{LineEffect, change_lines, revokes_after}
use Rattle.system_model.specs.TreeEffects.{TreeEffect, change_tree}
use Rattle.system_model.specs.ProcessEffects.{ProcessEffect, change_processes}

pub data Effect : Type 0 where
  on_files : FileEffect → Effect
  on_pipes : PipeEffect → Effect
  on_lines : LineEffect → Effect
  on_tree : TreeEffect → Effect
  on_processes : ProcessEffect → Effect
  -- the system takes no more events
  halt : Effect

abbrev pub change_parts : {F C : Type 0} → Keeping F C → Parts F C → Effect → Parts F C
change_parts keeping m (on_files e) = change_files keeping m e
change_parts keeping m (on_pipes e) = change_pipes keeping m e
change_parts keeping m (on_lines e) = change_lines keeping m e
change_parts keeping m (on_tree e) = change_tree m e
change_parts keeping m (on_processes e) = change_processes m e
change_parts keeping m halt = record m { halted = true }

-- what an effect makes of a view
abbrev pub change : View → Effect → View
change v e = change_parts seeing v e

abbrev pub revokes_of : Revokes → ℕ → Effect → Revokes
revokes_of revokes p (on_files e) = revokes
revokes_of revokes p (on_pipes e) = revokes
revokes_of revokes p (on_lines e) = revokes_after revokes p e
revokes_of revokes p (on_tree e) = revokes
revokes_of revokes p (on_processes e) = revokes
revokes_of revokes p halt = revokes

-- what an effect of the event at position p makes of a state
abbrev pub tag : State → ℕ → Effect → State
tag s p e = record { parts = change_parts (tagging p s.revokes) s.parts e; revokes = revokes_of s.revokes p e }

abbrev pub change_all : View → List Effect → View
change_all v [] = v
change_all v (e ∷ es) = change_all (change v e) es

abbrev pub tag_all : State → ℕ → List Effect → State
tag_all s p [] = s
tag_all s p (e ∷ es) = tag_all (tag s p e) p es
