-- The bytes that a name holds.
use Rattle.scan.specs.Names.{Bytes}
use Rattle.scan.specs.declared.names.Name.{Name}

abbrev pub name_bytes : Name → Bytes
name_bytes n = n.text.bytes
