-- Texts below a line, where labels are asked for.
use Rattle.std.proofs.Common.{◌≡◌, sym, subst, Bool, true, List, ℕ, Option}
use Rattle.std.specs.Io.KnownBytes.{Appends}
use Rattle.ospf_files.specs.Streams.{IsBegun}
use Rattle.ospf_files.proofs.Written.{front_begun, rest_begun}
use Rattle.ospf_script.specs.Words.{Text}
use Rattle.ospf_views.specs.Shown.{headed}

-- a beginning of the line
pub line_begun : (b : Bool) (line text : Text) (x y : Option (List ℕ)) → b ≡ true → IsBegun x y line → IsBegun x y (headed b line text)
line_begun b line text x y is h = subst (λ (t : Bool). IsBegun x y (headed t line text)) (sym is) (front_begun x y line text h)

-- the line, and a beginning of what stands below
pub below_begun : (b : Bool) (line text : Text) (x y z : Option (List ℕ)) → b ≡ true → Appends x y line → IsBegun y z text → IsBegun x z (headed b line text)
below_begun b line text x y z is h k = subst (λ (t : Bool). IsBegun x z (headed t line text)) (sym is) (rest_begun x y z line text h k)
