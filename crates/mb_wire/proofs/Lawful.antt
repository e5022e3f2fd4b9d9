-- Proves that converting a borrowed request or response to an independent value keeps its validity.
-- A valid request stays valid, and a response still answers the same requests.
use Rattle.std.proofs.Common.{ℕ, sym, ap, ◌∙◌, subst}
use Rattle.mb_wire.specs.Requests.{IsLawful, IsLawfulQuery, IsWithin, query_of}
use Rattle.mb_wire.specs.Replies.{AnswersQuery, AnswersRequest, FitsRequest, answer_of}
use Rattle.mb_wire.specs.declared.requests.Request.{Request}
use Rattle.mb_wire.specs.declared.requests.Request.TheVariants.{ReadCoils, ReadDiscrete, ReadHolding, ReadInput, WriteCoil, WriteRegister, WriteCoils, WriteRegisters}
use Rattle.mb_wire.specs.declared.requests.Wanted.TheVariants.{Coils}
use Rattle.mb_wire.specs.declared.replies.Reply.{Reply}
use Rattle.mb_wire.specs.declared.replies.Reply.TheVariants.{Bits, Words, Echo, Exception}
use Rattle.mb_wire.proofs.Packing.{length-coils_of-whole}

pub lawful_query : (request : Request) → IsLawful request → IsLawfulQuery (query_of request)
lawful_query (ReadCoils address quantity) h = h
lawful_query (ReadDiscrete address quantity) h = h
lawful_query (ReadHolding address quantity) h = h
lawful_query (ReadInput address quantity) h = h
lawful_query (WriteCoil address on) h = h
lawful_query (WriteRegister address value) h = h
lawful_query (WriteCoils address quantity bytes) h =
    let P : ℕ → Type 0 = λ n. IsWithin n 1968 in
    subst P (sym (length-coils_of-whole quantity bytes.now h.1)) h.0
lawful_query (WriteRegisters address bytes) h = h.0

pub answers_query : (request : Request) (reply : Reply) → AnswersRequest request reply → AnswersQuery (query_of request) (answer_of reply)
answers_query request (Bits quantity bytes) h = h.0 ∙ ap Coils (sym (length-coils_of-whole quantity bytes.now h.1))
answers_query request (Words bytes) h = h.0
answers_query request Echo h = h
answers_query request (Exception code) h = h

-- If a response is an exception, or the request is valid and the response has the requested
-- quantity of data (`FitsRequest`), then the response answers the request.
pub fitting_answers : (request : Request) (reply : Reply) → FitsRequest request reply → AnswersRequest request reply
fitting_answers request (Bits quantity bytes) h = h.1
fitting_answers request (Words bytes) h = h.1
fitting_answers request Echo h = h.1
fitting_answers request (Exception code) h = h

pub fitting_query : (request : Request) (reply : Reply) → FitsRequest request reply → AnswersQuery (query_of request) (answer_of reply)
fitting_query request reply h = answers_query request reply (fitting_answers request reply h)
