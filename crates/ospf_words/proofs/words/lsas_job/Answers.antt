use Rattle.std.proofs.Common.{◌∙◌, codes, sym}
use Rattle.clap.specs.Words.{found_of, one_of, rows_of}
use Rattle.ospf_words.specs.Words.{IsFlag}
use Rattle.ospf_words.proofs.WordLemmas.{is_asked, none_asked}
use Rattle.ospf_words.proofs.words.lsas_job.Goals as goal

pub returns-in-Some : goal.returns-in-Some
returns-in-Some c =
    let found = found_of c.args.values.now in
    let drawn : IsFlag (one_of (codes "dot") (rows_of found)) c.has_flag-drawn.result = c.has_flag-drawn.ensures in
    let json : IsFlag (one_of (codes "json") (rows_of found)) c.has_flag-json.result = c.has_flag-json.ensures in
    is_asked (rows_of found) c.has_flag-drawn.result c.has_flag-json.result c.in-Some.asked drawn json (sym c.in-Some.is ∙ c.lsas_asked.ensures)

pub returns-in-None : goal.returns-in-None
returns-in-None c =
    let found = found_of c.args.values.now in
    let drawn : IsFlag (one_of (codes "dot") (rows_of found)) c.has_flag-drawn.result = c.has_flag-drawn.ensures in
    let json : IsFlag (one_of (codes "json") (rows_of found)) c.has_flag-json.result = c.has_flag-json.ensures in
    none_asked (rows_of found) c.has_flag-drawn.result c.has_flag-json.result drawn json (sym c.in-None.is ∙ c.lsas_asked.ensures)
