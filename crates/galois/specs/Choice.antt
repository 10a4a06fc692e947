-- One of the two fields of bytes.
use Rattle.galois.specs.declared.chosen.AnyField.{AnyField}
use Rattle.galois.specs.declared.chosen.AnyField.TheVariants.{One, Two}
use Rattle.galois.specs.Bytes.{ByteField}
use Rattle.galois.specs.Polynomials.{field_1, field_2}

-- the field of a choice
abbrev pub chosen_field : AnyField → ByteField
chosen_field One = field_1
chosen_field Two = field_2
