-- The text of a list, entry by entry.
use Rattle.std.proofs.Common.{◌≡◌, List, [], ◌∷◌, ◌++◌, sym, ap, ◌∙◌, append-nil}
use Rattle.std.specs.List.{flat_map}
use Rattle.std.proofs.lemmas.List.Concat.{flat_map-cons}
use Rattle.acl_core.specs.declared.entry.Entry.{Entry}
use Rattle.acl_core.specs.declared.text.TheConstants.{COMMA}
use Rattle.acl_core.specs.Text.{entry_text, next_text, list_text}

-- the first entry, and each other after a comma
pub list_text-cons : (e : Entry) (list : List Entry) → list_text (e ∷ list) ≡ entry_text e ++ flat_map next_text list
unfolding list_text
list_text-cons e [] = sym (append-nil (entry_text e))
list_text-cons e (f ∷ list) =
    ap (λ more. entry_text e ++ (COMMA ∷ more)) (list_text-cons f list) ∙ ap (λ more. entry_text e ++ more) (sym (flat_map-cons next_text f list))
