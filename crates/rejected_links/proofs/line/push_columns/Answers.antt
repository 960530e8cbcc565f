-- Each column is what its call says.
use Rattle.std.proofs.Common.{◌++◌, drop}
use Rattle.std.specs.String.{string_bytes}
use Rattle.std.proofs.lemmas.Result.{on_ok_weaker}
use Rattle.address.specs.Address.{scheme_of, host_of, dir_of, file_of, query_of}
use Rattle.rejected_links.specs.Lines.{parts_text, port_text, scheme_word}
use Rattle.rejected_links.proofs.LineLaws.{halves}
use Rattle.rejected_links.proofs.line.push_columns.Goals as goal

pub returns-clause-ok : goal.returns-clause-ok
unfolding parts_text
returns-clause-ok c =
    let u = c.args.address.now in
    let front = rw (c.as_str-url.ensures.value, c.scheme_word-scheme.ensures, c.scheme.ensures, c.host-host.ensures.value, c.port-port.ensures) at c.in_ok-write.ensures.bytes in
    on_ok_weaker c.write-2.result
    (halves (string_bytes c.args.text.now) (string_bytes c.write.new.self) (string_bytes c.write-2.new.self) u (scheme_word (scheme_of u)) (host_of u) (port_text u) (drop 1 (dir_of u ++ file_of u)) (drop 1 (query_of u)) front)
    (rw (c.path_and_query.ensures.path, c.path_and_query.ensures.query) at c.write-2.ensures.bytes)
