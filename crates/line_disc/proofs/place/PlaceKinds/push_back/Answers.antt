use Rattle.std.proofs.Common.{◌∷◌, [], ◌++◌, length, ◌<◌, ap, ◌∙◌, refl, arith, List}
use Rattle.line_disc.specs.declared.place.PlaceKind.{PlaceKind}
use Rattle.line_disc.specs.Places.{kind_of}
use Rattle.line_disc.proofs.PlaceLemmas.{kinds_in_push, length-kinds_in, kind_of_tests}
use Rattle.line_disc.proofs.place.PlaceKinds.push_back.Goals as goal

pub returns : goal.returns
returns c =
    let many = length-kinds_in c.self.inside.ends c.self.inside.marks c.self.inside.first c.self.inside.count in
    let seen = ap (λ (ks : List PlaceKind). length ks) c.self.view_is in
    let room : c.self.inside.count < 1024 = omega (arith, many, seen) in
    kinds_in_push c.self.inside.ends c.self.inside.marks c.put_bit.new.words c.put_bit-2.new.words c.self.inside.first c.self.inside.count _
    c.is_line_end.result c.is_file_end.result
    room refl c.put_bit.ensures c.put_bit-2.ensures
    ∙ ap (λ (ks : List PlaceKind). ks ++ kind_of c.is_line_end.result c.is_file_end.result ∷ []) c.self.view_is
    ∙ ap (λ (k : PlaceKind). c.args.self.now ++ k ∷ [])
    (kind_of_tests c.args.kind c.is_line_end.result c.is_file_end.result c.is_line_end.ensures c.is_file_end.ensures)
