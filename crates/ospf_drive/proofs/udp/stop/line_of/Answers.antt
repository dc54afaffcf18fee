use Rattle.std.proofs.Common.{◌≡◌, ◌++◌, ◌∙◌, IfOk, append_assoc, codes, string_bytes, subst, sym}
use Rattle.ospf_files.specs.Files.{unread_line}
use Rattle.ospf_files.specs.declared.files.NamedFile.{NamedFile}
use Rattle.ospf_drive.specs.UdpWire.Obstacles.{line_about, obstacle_line}
use Rattle.ospf_drive.proofs.udp.stop.line_of.Goals as goal

same : (file : NamedFile) → line_about file (codes "not read") ≡ unread_line file
same file =
    append_assoc (string_bytes file.name ++ codes ": ") (codes "not read") (codes "\n")
    ∙ append_assoc (string_bytes file.name) (codes ": ") (codes "not read" ++ codes "\n")

pub returns-in-Unread : goal.returns-in-Unread
returns-in-Unread c =
    subst (λ obstacle. IfOk c.line_about.result (λ line. string_bytes line ≡ obstacle_line obstacle)) (sym c.in-Unread.is)
    (subst (λ text. IfOk c.line_about.result (λ line. string_bytes line ≡ text)) (same c.in-Unread.file.now) c.line_about.ensures)
