use Rattle.std.proofs.Common.{◌≡◌, ◌∙◌, ap, sym, codes, string_bytes, true}
use Rattle.std.proofs.lemmas.Slice.Eq.{bytes_eq-Decides}
use Rattle.cfront.specs.Words.{is_file_name}
use Rattle.cfront.proofs.WordLists.{is_go}
use Rattle.cfront.proofs.words.go_file.Goals as goal

pub returns-in-len2-clause-job : goal.returns-in-len2-clause-job
returns-in-len2-clause-job c =
    let go : string_bytes c.command-item.result ≡ codes "go" =
    sym c.as_str.ensures.value ∙ (bytes_eq-Decides c.as_str.result.now (codes "go")).0 (sym c.eq.ensures ∙ c.if-eq.true) in
    let named : is_file_name (string_bytes c.file-item.result) ≡ true =
    ap is_file_name (sym c.as_str-then-eq.ensures.value) ∙ (sym c.is_name.ensures ∙ c.if-is_name.true) in
    rw (← c.as_slice.ensures.value)
    (is_go c.as_slice.result.now c.command-item.result c.file-item.result c.in-len2.len_at_least c.in-len2.len_below
    c.command-item.is c.file-item.is go named)
