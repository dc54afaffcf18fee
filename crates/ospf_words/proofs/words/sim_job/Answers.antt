use Rattle.std.proofs.Common.{◌≡◌, ◌⊎◌, ◌∙◌, ap, sym, refl, codes, string_bytes, false, inl, inr, is_some, not, true, Some}
use Rattle.clap.specs.Words.{found_of, one_of, rows_of}
use Rattle.ospf_words.specs.Unasked.{in_sim}
use Rattle.ospf_words.specs.Words.{IsFlag}
use Rattle.ospf_words.proofs.WordLemmas.{journal_apart, no_text, texts_of}
use Rattle.ospf_words.proofs.words.sim_job.Goals.{else-json-via-then-json+else-is_none, else-json-via-else-json}
use Rattle.ospf_words.proofs.words.sim_job.Goals as goal

pub returns-in_default : goal.returns-in_default
returns-in_default c =
    let found = found_of c.args.values.now in
    in_sim (rows_of found) refl (inl (sym c.in_default.ensures))

pub returns-in_default-all_of : goal.returns-in_default-all_of
returns-in_default-all_of c =
    let found = found_of c.args.values.now in
    in_sim (rows_of found) refl (inr (inl (sym c.in_default-all_of.ensures)))

pub returns-then-is_none : goal.returns-then-is_none
returns-then-is_none c =
    let found = found_of c.args.values.now in
    let json : IsFlag (one_of (codes "json") (rows_of found)) c.has_flag-json.result = c.has_flag-json.ensures in
    let none = no_text string_bytes c.in_ok-log.log _ c.is_none.result c.is_none.ensures c.if-is_none.true (c.in_ok-log.ensures ∙ c.word_of-4.ensures) in
    in_sim (rows_of found) refl (inr (inr (rw c.if-json.true at json, none)))

pub returns : goal.returns
returns c =
    let found = found_of c.args.values.now in
    let apart : (c.has_flag-json.result ≡ false) ⊎ (is_some c.in_ok-log.log ≡ true) =
    elim c.else-json.branch [ else-json-via-then-json+else-is_none w ↦ inr (w.is_none.ensures ∙ ap not w.if-is_none.false) | else-json-via-else-json w ↦ inl w.if-json.false ] in
    let script : string_bytes c.in_ok-script.script ≡ c.in-Some.script.now = search (c.in_ok-script.ensures.ok) in (
      rows_of found,
      refl,
      record {
        has_script = sym c.in-Some.ensures ∙ ap Some (sym script);
        texts = texts_of c.in-Some-all_of.files.now;
        has_files = sym c.in-Some-all_of.ensures;
        files = search (c.in_ok-files.ensures);
        dot = c.in_ok-dot.ensures ∙ c.word_of-2.ensures;
        pcap = c.in_ok-pcap.ensures ∙ c.word_of-3.ensures;
        log = c.in_ok-log.ensures ∙ c.word_of-4.ensures;
        json = c.has_flag-json.ensures;
        strict = c.has_flag.ensures;
        apart = journal_apart c.in_ok-log.log c.has_flag-json.result apart;
      },
    )
