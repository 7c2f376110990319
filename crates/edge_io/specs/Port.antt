-- What the port of a line promises.
use Rattle.std.specs.Prelude.{ℕ, ◌<◌, ◌≤◌, List, [], ◌∷◌, map, take}
use Rattle.edge_io.specs.Outside.{count_after}
use Rattle.edge_io.specs.declared.port.Heard.{Heard}
use Rattle.edge_io.specs.declared.port.Heard.TheVariants as heard
use Rattle.edge_io.specs.declared.port.LineInput.{LineInput}
use Rattle.edge_io.specs.declared.port.LineInput.TheVariants as input

-- what came in by a wait that gave this answer and put these bytes at the front of its room
abbrev pub inputs : Heard → List ℕ → List LineInput
inputs heard.Quiet into = []
inputs heard.Up into = input.Up ∷ []
inputs (heard.Bytes n) into = map input.Byte (take n into)
inputs heard.Down into = input.Down ∷ []
inputs heard.Ended into = []

-- An answer of bytes has at least one, and they fit the room.
abbrev pub FitsRoom : Heard → ℕ → Type 0
FitsRoom (heard.Bytes n) room = (0 < n) × (n ≤ room)
FitsRoom h room = Unit {0}

-- how often Ended was answered, after this answer too
abbrev pub end_count_after : Heard → ℕ → ℕ
end_count_after heard.Ended n = count_after n 1
end_count_after heard.Quiet n = n
end_count_after heard.Up n = n
end_count_after (heard.Bytes k) n = n
end_count_after heard.Down n = n
