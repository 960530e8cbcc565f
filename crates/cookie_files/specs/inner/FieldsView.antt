-- What the fields of the code's own type are.
use Rattle.std.specs.Prelude.{Option, Result, Ok, Err, option_map}
use Rattle.cookie_files.specs.Lines as lines
use Rattle.cookie_files.specs.declared.fault.CookieLineFault.{CookieLineFault}
use Rattle.cookie_files.specs.declared.fields.CookieFields.{CookieFields}

-- the fields as the definitions have them
abbrev pub fields_value : CookieFields → lines.Fields
fields_value fields =
    record {
      domain = fields.domain.now;
      subdomains = fields.subdomains.now;
      path = fields.path.now;
      secure = fields.secure.now;
      expiry = fields.expiry.now;
      name = fields.name.now;
      value = fields.value.now;
    }

-- and what a line says
abbrev pub said_value : Result (Option CookieFields) CookieLineFault → Result (Option lines.Fields) CookieLineFault
said_value (Ok said) = Ok (option_map fields_value said)
said_value (Err why) = Err why
