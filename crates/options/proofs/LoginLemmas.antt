-- User and password in a START, stage by stage.
use Rattle.std.proofs.Common.{◌≡◌, true, false, None, refl}
use Rattle.std.specs.Prelude.{Err, Ok}
use Rattle.clap.specs.Walk.{Text}
use Rattle.url.specs.Parser.{parse_url}
use Rattle.url.specs.Parts.{Parts}
use Rattle.url.specs.declared.error.ParseError.{ParseError}
use Rattle.options.specs.Start.{is_short, login_in, login_of_url, plain_of_parsed, without_login}

pub login_long : (text : Text) → is_short text ≡ false → login_in text ≡ None
unfolding login_in
login_long text long = rw long refl

pub login_url : (text : Text) (url : Parts) → is_short text ≡ true → parse_url None text ≡ Ok url → login_in text ≡ login_of_url url
unfolding login_in
login_url text url short is = rw (short, is) refl

pub login_none : (text : Text) (e : ParseError) → is_short text ≡ true → parse_url None text ≡ Err e → login_in text ≡ None
unfolding login_in
login_none text e short is = rw (short, is) refl

pub plain_long : (text : Text) → is_short text ≡ false → without_login text ≡ text
unfolding without_login
plain_long text long = rw long refl

pub plain_url : (text : Text) (url : Parts) → is_short text ≡ true → parse_url None text ≡ Ok url → without_login text ≡ plain_of_parsed text (Ok url)
unfolding without_login
plain_url text url short is = rw (short, is) refl

pub plain_none : (text : Text) (e : ParseError) → is_short text ≡ true → parse_url None text ≡ Err e → without_login text ≡ text
unfolding without_login
plain_none text e short is = rw (short, is) refl
