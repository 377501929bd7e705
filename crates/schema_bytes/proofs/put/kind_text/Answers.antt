use Rattle.std.proofs.Common.{rules}
use Rattle.schema_bytes.proofs.KindNames.{reference_text, int_text, long_text, boolean_text, string_text, bytes_text}
use Rattle.schema_bytes.proofs.put.kind_text.Goals as goal

pub returns-in-Reference : goal.returns-in-Reference
returns-in-Reference c = search (rules, reference_text)

pub returns-in-Int : goal.returns-in-Int
returns-in-Int c = search (rules, int_text)

pub returns-in-Long : goal.returns-in-Long
returns-in-Long c = search (rules, long_text)

pub returns-in-Boolean : goal.returns-in-Boolean
returns-in-Boolean c = search (rules, boolean_text)

pub returns-in-Text : goal.returns-in-Text
returns-in-Text c = search (rules, string_text)

pub returns-in-Bytes : goal.returns-in-Bytes
returns-in-Bytes c = search (rules, bytes_text)
