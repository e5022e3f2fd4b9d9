-- Examples of the numeric codes that the program can print: the first and the last code of each
-- kind, and the numbers just outside each range.
use Rattle.std.proofs.Common.{◌≡◌, Some, None, true, false, refl, codes}
use Rattle.printed_numbers.specs.Kinds.{kind_named}
use Rattle.printed_numbers.specs.Numbers.{has_number}
use Rattle.printed_numbers.specs.declared.kind.Kind.TheVariants.{Refused, Held, Lost, Malformed, Exception, RowFault, ChainFault, HttpFault, Status}

no_refusal_0 : has_number Refused 0 ≡ false
no_refusal_0 = refl

refusal_1 : has_number Refused 1 ≡ true
refusal_1 = refl

refusal_17 : has_number Refused 17 ≡ true
refusal_17 = refl

no_refusal_18 : has_number Refused 18 ≡ false
no_refusal_18 = refl

no_hold_0 : has_number Held 0 ≡ false
no_hold_0 = refl

hold_1 : has_number Held 1 ≡ true
hold_1 = refl

hold_8 : has_number Held 8 ≡ true
hold_8 = refl

no_hold_9 : has_number Held 9 ≡ false
no_hold_9 = refl

no_loss_0 : has_number Lost 0 ≡ false
no_loss_0 = refl

loss_4 : has_number Lost 4 ≡ true
loss_4 = refl

no_loss_5 : has_number Lost 5 ≡ false
no_loss_5 = refl

no_malformation_0 : has_number Malformed 0 ≡ false
no_malformation_0 = refl

malformation_5 : has_number Malformed 5 ≡ true
malformation_5 = refl

no_malformation_6 : has_number Malformed 6 ≡ false
no_malformation_6 = refl

-- The Modbus standard defines no exception codes 7 and 9, and no exception code above 11.

no_exception_0 : has_number Exception 0 ≡ false
no_exception_0 = refl

exception_6 : has_number Exception 6 ≡ true
exception_6 = refl

no_exception_7 : has_number Exception 7 ≡ false
no_exception_7 = refl

exception_8 : has_number Exception 8 ≡ true
exception_8 = refl

no_exception_9 : has_number Exception 9 ≡ false
no_exception_9 = refl

exception_11 : has_number Exception 11 ≡ true
exception_11 = refl

no_exception_12 : has_number Exception 12 ≡ false
no_exception_12 = refl

no_row_fault_0 : has_number RowFault 0 ≡ false
no_row_fault_0 = refl

row_fault_12 : has_number RowFault 12 ≡ true
row_fault_12 = refl

no_row_fault_13 : has_number RowFault 13 ≡ false
no_row_fault_13 = refl

chain_fault_4 : has_number ChainFault 4 ≡ true
chain_fault_4 = refl

no_chain_fault_5 : has_number ChainFault 5 ≡ false
no_chain_fault_5 = refl

http_fault_400 : has_number HttpFault 400 ≡ true
http_fault_400 = refl

http_fault_405 : has_number HttpFault 405 ≡ true
http_fault_405 = refl

-- The body of an HTTP response with status 422 has the numeric code of a refusal, or the faults of
-- a point list (CSV). So 422 is not the code of an HTTP fault.
no_http_fault_422 : has_number HttpFault 422 ≡ false
no_http_fault_422 = refl

http_fault_403 : has_number HttpFault 403 ≡ true
http_fault_403 = refl

no_http_fault_402 : has_number HttpFault 402 ≡ false
no_http_fault_402 = refl

http_fault_503 : has_number HttpFault 503 ≡ true
http_fault_503 = refl

no_http_fault_504 : has_number HttpFault 504 ≡ false
no_http_fault_504 = refl

http_fault_431 : has_number HttpFault 431 ≡ true
http_fault_431 = refl

status_0 : has_number Status 0 ≡ true
status_0 = refl

status_3 : has_number Status 3 ≡ true
status_3 = refl

no_status_4 : has_number Status 4 ≡ false
no_status_4 = refl

-- Examples of `kind_named`, which finds the kind of a printed numeric code by the word before the
-- code.

fault_is_first_of_rows : kind_named (codes "fault") ≡ Some RowFault
fault_is_first_of_rows = refl

the_first_kind : kind_named (codes "refused") ≡ Some Refused
the_first_kind = refl

the_last_kind : kind_named (codes "status") ≡ Some Status
the_last_kind = refl

a_word_in_other_case : kind_named (codes "Refused") ≡ None
a_word_in_other_case = refl
